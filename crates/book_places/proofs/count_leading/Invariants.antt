use Prim.Native.Nat.{◌+◌}
use Rattle.book_order.specs.Orders.{next_end}
use Rattle.book_places.specs.Places.{leading}
use lib.ListN.{take, drop}
use mathlib.Core.Path.{◌≡◌}
use Rattle.book_places.proofs.count_leading.Given as goal

-- The counted ones, with what leads from here on, are what leads, and `next` is their next end.
abbrev pub invariant-loop-i : goal.invariant-loop-i
invariant-loop-i l =
    (l.i + leading l.floor l.least (drop l.i l.orders) ≡ leading l.floor 0 l.orders) × (l.next ≡ next_end (take l.i l.orders))
