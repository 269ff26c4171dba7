use Prim.Native.Nat.{◌≤◌}
use Rattle.book_order.specs.Orders.{number}
use Rattle.book_places.proofs.Seats.{seat_held, seat_free, seat_none}
use Rattle.book_places.specs.Places.{past_order}
use Rattle.book_shelf.proofs.Ranks.{ranked_on}
use lib.ListN.{length}
use mathlib.Core.Path.{◌≡◌, refl}
use native.Mathlib.Omega.{arith}
use Rattle.book_places.proofs.seat_of.Goals as goal

pub loop-i-init : goal.loop-i-init
loop-i-init c = refl

pub returns-then-o-n : goal.returns-then-o-n
returns-then-o-n c =
    let a = c.args in
    let long : a.to ≤ length a.orders = omega arith in
    seat_held a.n a.from a.to c.loop-i.i a.orders c.loop-i.invariant long c.loop-i-test.true c.if-n-o.true c.if-o-n.true

pub returns-else-o-n : goal.returns-else-o-n
returns-else-o-n c =
    let a = c.args in
    let long : a.to ≤ length a.orders = omega arith in
    seat_free a.n a.from a.to c.loop-i.i a.orders c.loop-i.invariant long c.loop-i-test.true c.if-n-o.true c.if-o-n.false

pub loop-i-preserved : goal.loop-i-preserved
loop-i-preserved c =
    let long : c.args.to ≤ length c.args.orders = omega arith in
    let a = c.args in
    ranked_on number past_order a.n a.from a.to a.orders c.loop-i.i c.loop-i.invariant long c.loop-i-test.true c.if-n-o.false

pub returns : goal.returns
returns c =
    let a = c.args in
    let end : c.loop-i.i ≡ a.to = omega (arith, c.requires.0) in
    seat_none a.n a.from a.to a.to a.orders (rw end at c.loop-i.invariant) (omega arith)
