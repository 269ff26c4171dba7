use Rattle.book_order.specs.Orders.{empty_order}
use Rattle.book_places.specs.Places.{past_order, stays}
use Rattle.book_shelf.proofs.Keeping.{Passed}
use lib.ListN.{length}
use mathlib.Core.Path.{◌≡◌}
use Rattle.book_places.proofs.keep_past.Given as goal

-- The orders passed that stay stand in the first places.
abbrev pub invariant-loop-i : goal.invariant-loop-i
invariant-loop-i l =
    (length l.next ≡ 96) × Passed empty_order past_order 96 (stays l.from l.to l.t) l.i l.kept l.orders l.next
