use Prim.Native.Nat.{◌+◌}
use Rattle.book_order.specs.Orders.{number}
use Rattle.book_shelf.specs.Shelf.{between, rank_of}
use mathlib.Core.Path.{◌≡◌}
use Rattle.book_places.proofs.seat_of.Given as goal

-- The places passed, with the rank in those that follow, are the seat; and the order there tells whether it is held.
abbrev pub invariant-loop-i : goal.invariant-loop-i
invariant-loop-i l = l.i + rank_of number l.n (between l.i l.to l.orders) ≡ l.from + rank_of number l.n (between l.from l.to l.orders)
