use Rattle.value_date.proofs.Laws.{february_long, february, thirty, thirty_one}
use Rattle.value_date.proofs.days_in.Goals as goal

-- Each arm is a law of `days_in`.
pub returns-then-year-eq0 : goal.returns-then-year-eq0
returns-then-year-eq0 c = february_long _ _ c.in-2.is c.if-year-eq0.true

pub returns-else-year-eq0 : goal.returns-else-year-eq0
returns-else-year-eq0 c = february _ _ c.in-2.is c.if-year-eq0.false

pub returns-in-4 : goal.returns-in-4
returns-in-4 c = thirty _ _ c.in-4.is

pub returns-in_default : goal.returns-in_default
returns-in_default c = thirty_one _ _ c.in_default.in_default-own.rest.0.1 c.in_default.in_default-own.rest.1
