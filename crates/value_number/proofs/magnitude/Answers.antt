use Rattle.value_number.proofs.Signs.{wide, wide_neg, turned, turned_back, abs_neg, below_zero, from_zero}
use lib.IntN.{nat_abs}
use mathlib.Core.Path.{ap, ◌∙◌}
use mir.Syntax.{w32}
use mir.ValLaws.{to_z-of_z}
use Rattle.value_number.proofs.magnitude.Goals as goal

-- Both ways give the number without its sign.
pub overflow_cast-result : goal.overflow_cast-result
overflow_cast-result c = rw (to_z-of_z w32 _ c.ranges.x) (wide _ c.ranges.x)

pub overflow_sub-result : goal.overflow_sub-result
overflow_sub-result c = rw (turned _ c.ranges.x) (wide_neg _ c.ranges.x)

pub overflow_cast-result-then-x-lt0 : goal.overflow_cast-result-then-x-lt0
overflow_cast-result-then-x-lt0 c =
    rw (turned_back _ c.ranges.x) (below_zero _ c.ranges.x (rw (to_z-of_z w32 c.args.x c.ranges.x) at c.if-x-lt0.true))

pub overflow_cast-result-else-x-lt0 : goal.overflow_cast-result-else-x-lt0
overflow_cast-result-else-x-lt0 c =
    rw (to_z-of_z w32 _ c.ranges.x) (from_zero _ c.ranges.x (rw (to_z-of_z w32 c.args.x c.ranges.x) at c.if-x-lt0.false))

pub returns-then-x-lt0 : goal.returns-then-x-lt0
returns-then-x-lt0 c = ap nat_abs (turned_back _ c.ranges.x) ∙ abs_neg c.args.x

pub returns-else-x-lt0 : goal.returns-else-x-lt0
returns-else-x-lt0 c = ap nat_abs (to_z-of_z w32 _ c.ranges.x)
