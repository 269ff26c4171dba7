use Rattle.record_check.proofs.Fields.{all_asked, small, one_fails, one_holds}
use borrow.Author.Rules.{rules}
use mathlib.Core.Path.{refl}
use native.Mathlib.Omega.{arith}
use mathlib.Core.Bool.{not}
use mathlib.Core.Path.{ap}
use Rattle.record_check.proofs.all_hold.Goals as goal

pub loop-k-init : goal.loop-k-init
loop-k-init c = record { type_is = c.type_of-t.ensures; size_is = c.size-size.ensures; room = search rules; rest = refl }

pub offset_bounds-cells-k : goal.offset_bounds-cells-k
offset_bounds-cells-k c = omega (arith, small _ _ _ _ _ _ c.loop-k.invariant c.loop-k-test.true)

pub bounds-cells-k : goal.bounds-cells-k
bounds-cells-k c = omega (arith, small _ _ _ _ _ _ c.loop-k.invariant c.loop-k-test.true, c.loop-k.invariant.room)

pub overflow_add-k : goal.overflow_add-k
overflow_add-k c = omega (arith, small _ _ _ _ _ _ c.loop-k.invariant c.loop-k-test.true)

pub returns-then-not-holds : goal.returns-then-not-holds
returns-then-not-holds c =
    one_fails _ _ _ _ _ _ c.loop-k.invariant c.loop-k-test.true _ c.of_field.ensures _ c.holds.ensures
    (ap not c.if-not-holds.true)

pub loop-k-preserved : goal.loop-k-preserved
loop-k-preserved c =
    one_holds _ _ _ _ _ _ c.loop-k.invariant c.loop-k-test.true _ c.of_field.ensures _ c.holds.ensures
    (ap not c.if-not-holds.false)

pub returns : goal.returns
returns c = all_asked _ _ _ _ _ _ c.loop-k.invariant c.loop-k-test.false
