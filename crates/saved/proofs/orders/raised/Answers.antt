use Rattle.saved.proofs.Valued.{amount_small, raised_below, raised_from}
use native.Mathlib.Omega.{arith}
use Rattle.saved.proofs.orders.raised.Goals as goal

pub overflow_sub-result : goal.overflow_sub-result
overflow_sub-result c = omega (arith, amount_small _ c.ranges.x _ c.magnitude.ensures c.requires)

pub returns-then-x-lt0 : goal.returns-then-x-lt0
returns-then-x-lt0 c = raised_below _ c.ranges.x _ c.magnitude.ensures c.if-x-lt0.true

pub overflow_add-result : goal.overflow_add-result
overflow_add-result c =
    record { fits = omega (arith, amount_small _ c.ranges.x _ c.magnitude-2.ensures c.requires) }

pub returns : goal.returns
returns c = raised_from _ c.ranges.x _ c.magnitude-2.ensures c.if-x-lt0.false
