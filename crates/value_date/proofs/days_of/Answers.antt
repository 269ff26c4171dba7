use Rattle.value_date.proofs.Laws.{days_sum}
use native.Mathlib.Omega.{arith}
use Rattle.value_date.proofs.days_of.Goals as goal

pub overflow_add-result : goal.overflow_add-result
overflow_add-result c = omega (arith, (days_sum _ _ _ _ c.days_before.ensures c.leap_day.ensures).1)

pub returns : goal.returns
returns c = days_sum _ _ _ _ c.days_before.ensures c.leap_day.ensures
