-- The place of the last order that is in force tells its number. Assumes nothing.
use Rattle.std.specs.Prelude.{None, Option, Some}
use Prim.Native.Nat.{ℕ}
use Rattle.book.specs.Answers.{in_force_by, found}
use Rattle.book_lists.specs.Keyed.{greatest, Ascending}
use Rattle.book_order.specs.Orders.{number, live}
use Rattle.book_order.specs.declared.Order.{Order}
use Rattle.book_places.proofs.Staying.{live_last, place_at, place_none}
use Rattle.book_places.specs.Places.{order_at, place_of}
use Rattle.book_shelf.specs.Shelf.{between, last_at}
use lib.ListN.{take}
use mathlib.Core.List.{List}
use mathlib.Core.Path.{◌≡◌}

module _ (t count : ℕ) (l : List Order) (s : Ascending number (take count l)) (y : Option ℕ) (e : y ≡ place_of (last_at (live t) 0 (between 0 count l))) where
  pub none_live : y ≡ None → in_force_by None ≡ found (greatest number (live t) (take count l))
  none_live h = rw (live_last t count l s, place_none (last_at (live t) 0 (between 0 count l)) (rw h at e))

  pub some_live : (i : ℕ) → y ≡ Some i → in_force_by (Some (order_at i l).number) ≡ found (greatest number (live t) (take count l))
  some_live i h = rw (live_last t count l s, place_at (last_at (live t) 0 (between 0 count l)) i (rw h at e))
