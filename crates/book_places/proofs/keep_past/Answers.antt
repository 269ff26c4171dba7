use Prim.Native.Nat.{◌<◌}
use Rattle.book_order.specs.Orders.{empty_order}
use Rattle.book_places.proofs.Staying.{kept_end}
use Rattle.book_places.specs.Places.{past_order, stays}
use Rattle.book_shelf.proofs.Keeping.{begin, room, keeps, leaves}
use lib.ListN.{length, length-set}
use mathlib.Core.Path.{refl, ◌∙◌}
use native.Mathlib.Omega.{arith}
use Rattle.book_places.proofs.keep_past.Goals as goal
use Rattle.book_places.proofs.keep_past.Goals.{else-i-from, then-i-from}

pub loop-i-init : goal.loop-i-init
loop-i-init c = let a = c.args in (refl, begin empty_order past_order 96 (stays a.from a.to a.t) a.orders)

pub bounds-next-kept : goal.bounds-next-kept
bounds-next-kept c =
    let left : c.loop-i.kept < 96 = let at = c.loop-i in
    let a = c.args in
    omega (arith, room empty_order past_order 96 (stays a.from a.to a.t) at.i at.kept a.orders at.next at.invariant.1) in
    omega (arith, left)

pub loop-i-preserved : goal.loop-i-preserved
loop-i-preserved c =
    let at = c.loop-i in
    let a = c.args in
    let q = stays a.from a.to a.t in
    let h : at.i < length a.orders = omega arith in
    elim c.if-i-from.branch [
      | then-i-from w ↦ (
        rw w.next-is (length-set at.next at.kept _ ∙ at.invariant.0),
        rw (w.next-is, w.kept-is) (keeps empty_order past_order 96 q at.i at.kept a.orders at.next at.invariant.1 h (omega arith) w.if-i-from.true),
      )
      | else-i-from w ↦ (
        rw w.next-is at.invariant.0,
        rw (w.next-is, w.kept-is) (leaves empty_order past_order 96 q at.i at.kept a.orders at.next at.invariant.1 h w.if-i-from.false),
      )
    ]

pub returns : goal.returns
returns c =
    let at = c.loop-i in
    let a = c.args in
    kept_end a.from a.to a.count a.t at.i at.kept a.orders at.next at.invariant.1 (omega arith) c.loop-i-test.false
