use Rattle.value_date.proofs.Laws.{leap_more, no_leap}
use Rattle.value_date.proofs.leap_day.Goals as goal

-- Each arm is a law of `days_of`.
pub returns-then-months-year : goal.returns-then-months-year
returns-then-months-year c = leap_more _ _ c.if-months-year.true

pub returns-else-months-year : goal.returns-else-months-year
returns-else-months-year c = no_leap _ _ c.if-months-year.false
