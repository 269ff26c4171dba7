use Rattle.book_order.specs.Orders.{live}
use Rattle.book_shelf.specs.Shelf.{between, last_at}
use mathlib.Core.Path.{◌≡◌}
use Rattle.book_places.proofs.last_live.Given as goal

-- None of the orders passed, from the last one down, is in force.
abbrev pub invariant-loop-i : goal.invariant-loop-i
invariant-loop-i l = (last_at (live l.t) l.from (between l.from l.to l.orders) ≡ last_at (live l.t) l.from (between l.from l.i l.orders))
