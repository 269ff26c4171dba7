use Prim.Native.Nat.{◌≤◌}
use Rattle.book_order.specs.Orders.{live}
use Rattle.book_places.specs.Places.{past_order, place_of}
use Rattle.book_shelf.proofs.Lasting.{last_not, last_here, last_none}
use lib.ListN.{length}
use mathlib.Core.Path.{refl, sym, ap, ◌∙◌}
use native.Mathlib.Omega.{arith}
use Rattle.book_places.proofs.last_live.Goals as goal

pub loop-i-init : goal.loop-i-init
loop-i-init c = refl

pub returns-then-is_live : goal.returns-then-is_live
returns-then-is_live c =
    let long : c.loop-i.i ≤ length c.args.orders = omega arith in
    let a = c.args in
    let here = last_here (live a.t) past_order a.from a.to c.loop-i.i a.orders c.loop-i.invariant long c.loop-i-test.true in
    ap place_of (sym (here (sym c.is_live.ensures ∙ c.if-is_live.true)))

pub loop-i-preserved : goal.loop-i-preserved
loop-i-preserved c =
    let long : c.loop-i.i ≤ length c.args.orders = omega arith in
    let a = c.args in
    let not_here = last_not (live a.t) past_order a.from a.to c.loop-i.i a.orders c.loop-i.invariant long c.loop-i-test.true in
    not_here (sym c.is_live.ensures ∙ c.if-is_live.false)

pub returns : goal.returns
returns c =
    let a = c.args in
    ap place_of (sym (last_none (live a.t) past_order a.from a.to c.loop-i.i a.orders c.loop-i.invariant c.loop-i-test.false))
