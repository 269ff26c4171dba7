use Prim.Native.Nat.{◌<◌}
use Rattle.book_places.proofs.Ends.{next_on}
use Rattle.book_places.proofs.Leading.{fits_small, counted_on, counted_here, counted_all, counted_none}
use Rattle.book_places.specs.Places.{order_at, fits_after}
use lib.ListN.{length}
use mathlib.Core.Bool.{true}
use mathlib.Core.Path.{◌≡◌, refl, sym, ◌∙◌}
use native.Mathlib.Omega.{arith}
use Rattle.book_places.proofs.count_leading.Goals as goal

pub loop-i-init : goal.loop-i-init
loop-i-init c = (counted_none c.args.floor c.args.orders.now, refl)

pub returns-then-not-fits_after : goal.returns-then-not-fits_after
returns-then-not-fits_after c =
    let a = c.args in
    let h : c.loop-i.i < length a.orders.now = omega arith in
    let i = c.loop-i in
    (omega arith, counted_here a.floor i.least i.i _ a.orders.now i.invariant.0 h (sym c.fits_after.ensures ∙ c.if-not-fits_after.true), i.invariant.1)

pub overflow_add-least : goal.overflow_add-least
overflow_add-least c =
    let fits : fits_after c.args.floor c.loop-i.least (order_at c.loop-i.i c.args.orders.now) ≡ true = sym c.fits_after.ensures ∙ c.if-not-fits_after.false in
    let a = c.args in
    omega (arith, fits_small a.floor c.loop-i.least (order_at c.loop-i.i a.orders.now) fits)

pub loop-i-preserved : goal.loop-i-preserved
loop-i-preserved c =
    let fits : fits_after c.args.floor c.loop-i.least (order_at c.loop-i.i c.args.orders.now) ≡ true = sym c.fits_after.ensures ∙ c.if-not-fits_after.false in
    let a = c.args in
    let h : c.loop-i.i < length a.orders.now = omega arith in (
      counted_on a.floor c.loop-i.least c.loop-i.i _ a.orders.now c.loop-i.invariant.0 h fits,
      next_on c.loop-i.next _ c.loop-i.i a.orders.now h c.loop-i.invariant.1 c.sooner-next.ensures,
    )

pub returns : goal.returns
returns c =
    let a = c.args in
    let i = c.loop-i in
    let end : i.i ≡ 96 = omega arith in
    (omega arith, rw end at (counted_all a.floor i.least i.i _ a.orders.now i.invariant.0 (omega arith)), rw end at i.invariant.1)
