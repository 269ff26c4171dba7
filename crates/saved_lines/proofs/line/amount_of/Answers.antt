use Rattle.saved_lines.proofs.Meeting.{whole_most, under_not, under_is, over_not, over_is}
use native.Mathlib.Omega.{arith}
use Rattle.saved_lines.proofs.line.amount_of.Goals as goal

pub returns-in_default : goal.returns-in_default
returns-in_default c =
    under_not _ _ c.starts.ensures c.if-starts.true _ c.rest.ensures _ c.whole.ensures c.in_default.is

pub overflow_sub-result : goal.overflow_sub-result
overflow_sub-result c =
    omega (arith, whole_most _ _ _ _ _ c.whole.ensures c.in-Some.is)

pub returns-then-starts : goal.returns-then-starts
returns-then-starts c =
    under_is _ _ c.starts.ensures c.if-starts.true _ c.rest.ensures _ c.whole.ensures _ c.in-Some.is

pub returns-in_default-whole : goal.returns-in_default-whole
returns-in_default-whole c =
    over_not _ _ c.starts.ensures c.if-starts.false _ c.whole-2.ensures c.in_default-whole.is

pub overflow_add-result : goal.overflow_add-result
overflow_add-result c =
    omega (arith, whole_most _ _ _ _ _ c.whole-2.ensures c.in-Some-whole.is)

pub returns : goal.returns
returns c =
    over_is _ _ c.starts.ensures c.if-starts.false _ c.whole-2.ensures _ c.in-Some-whole.is
