use Prim.Native.Nat.{◌+◌, ◌-◌, ◌≤◌}
use Rattle.std.specs.Prelude.{Ok}
use Rattle.saved.specs.Saved.{order_read_by, head_by}
use Rattle.saved.proofs.Reading.{Reading, begin, line_low, stop_here, go_on, too_many, all_there}
use lib.ListN.{length, take, drop, set, length-take}
use mathlib.Core.Path.{◌≡◌, refl, ap, sym, ◌∙◌}
use native.Mathlib.Omega.{arith}
use Rattle.saved.proofs.read_below.Goals as goal

pub loop-i-init : goal.loop-i-init
loop-i-init c = let p = c.requires in begin _ _ p.2 p.0

pub overflow_add-line : goal.overflow_add-line
overflow_add-line c =
    let low : c.loop-i.line + c.in-Ok.next.lines ≤ 2000 = line_low _ _ _ _ _ _ _ c.loop-i.invariant c.loop-i-test.true c.requires.1 _ (ap order_read_by (sym c.in-Ok.is) ∙ c.read_order.ensures) in
    record { fits = omega (arith, low) }

pub overflow_add-result : goal.overflow_add-result
overflow_add-result c =
    let low : c.loop-i.line + c.in-Err.lines ≤ 2000 = line_low _ _ _ _ _ _ _ c.loop-i.invariant c.loop-i-test.true c.requires.1 _ (ap order_read_by (sym c.in-Err.is) ∙ c.read_order.ensures) in
    omega (arith, low)

pub returns-in-Err : goal.returns-in-Err
returns-in-Err c =
    sym (stop_here _ _ _ _ _ _ _ c.loop-i.invariant c.loop-i-test.true c.requires.1 _ (ap order_read_by (sym c.in-Err.is) ∙ c.read_order.ensures) refl)

pub overflow_add-least : goal.overflow_add-least
overflow_add-least c =
    let said : let l = c.loop-i in let r = c.in-Ok.next in (r.order.number ≤ 9999999999) × (r.end ≤ length l.rest.now) × Reading (head_by (Ok c.args.h)) c.args.s.now (set l.orders l.i r.order) (l.i + 1) (r.order.number + 1) (l.line + r.lines) (take (length l.rest.now - r.end) (drop r.end l.rest.now)) = go_on _ _ _ _ _ _ _ c.loop-i.invariant c.loop-i-test.true c.requires.1 _ (ap order_read_by (sym c.in-Ok.is) ∙ c.read_order.ensures) refl in
    record { fits = omega (arith, said.0) }

pub slice_bounds-below-count : goal.slice_bounds-below-count
slice_bounds-below-count c =
    let said : let l = c.loop-i in let r = c.in-Ok.next in (r.order.number ≤ 9999999999) × (r.end ≤ length l.rest.now) × Reading (head_by (Ok c.args.h)) c.args.s.now (set l.orders l.i r.order) (l.i + 1) (r.order.number + 1) (l.line + r.lines) (take (length l.rest.now - r.end) (drop r.end l.rest.now)) = go_on _ _ _ _ _ _ _ c.loop-i.invariant c.loop-i-test.true c.requires.1 _ (ap order_read_by (sym c.in-Ok.is) ∙ c.read_order.ensures) refl in
    omega (arith, said.1)

pub slice_bounds-below-start : goal.slice_bounds-below-start
slice_bounds-below-start c =
    let said : let l = c.loop-i in let r = c.in-Ok.next in (r.order.number ≤ 9999999999) × (r.end ≤ length l.rest.now) × Reading (head_by (Ok c.args.h)) c.args.s.now (set l.orders l.i r.order) (l.i + 1) (r.order.number + 1) (l.line + r.lines) (take (length l.rest.now - r.end) (drop r.end l.rest.now)) = go_on _ _ _ _ _ _ _ c.loop-i.invariant c.loop-i-test.true c.requires.1 _ (ap order_read_by (sym c.in-Ok.is) ∙ c.read_order.ensures) refl in
    omega (arith, said.1)

pub slice_bounds-below-end : goal.slice_bounds-below-end
slice_bounds-below-end c =
    let said : let l = c.loop-i in let r = c.in-Ok.next in (r.order.number ≤ 9999999999) × (r.end ≤ length l.rest.now) × Reading (head_by (Ok c.args.h)) c.args.s.now (set l.orders l.i r.order) (l.i + 1) (r.order.number + 1) (l.line + r.lines) (take (length l.rest.now - r.end) (drop r.end l.rest.now)) = go_on _ _ _ _ _ _ _ c.loop-i.invariant c.loop-i-test.true c.requires.1 _ (ap order_read_by (sym c.in-Ok.is) ∙ c.read_order.ensures) refl in
    omega (arith, said.1)

pub loop-i-preserved : goal.loop-i-preserved
loop-i-preserved c =
    let said : let l = c.loop-i in let r = c.in-Ok.next in (r.order.number ≤ 9999999999) × (r.end ≤ length l.rest.now) × Reading (head_by (Ok c.args.h)) c.args.s.now (set l.orders l.i r.order) (l.i + 1) (r.order.number + 1) (l.line + r.lines) (take (length l.rest.now - r.end) (drop r.end l.rest.now)) = go_on _ _ _ _ _ _ _ c.loop-i.invariant c.loop-i-test.true c.requires.1 _ (ap order_read_by (sym c.in-Ok.is) ∙ c.read_order.ensures) refl in
    said.2

pub returns-then-rest-ne0 : goal.returns-then-rest-ne0
returns-then-rest-ne0 c =
    sym (too_many _ _ _ _ _ _ _ c.loop-i.invariant c.loop-i-test.false c.if-rest-ne0.true)

pub returns : goal.returns
returns c =
    let a = c.args.h in
    let end : c.loop-i.i ≡ a.count = omega arith in
    all_there _ _ _ _ _ _ _ (rw end at c.loop-i.invariant) (omega arith) c.if-rest-ne0.false _ c.front.ensures _ c.with.ensures
    (omega (arith, ap length c.front.ensures, length-take a.size a.unit, c.requires.3)) c.requires.1
