use Rattle.value_date.specs.Date.{passed, clock_of}
use Rattle.value_date.proofs.clock.Goals as goal

pub returns : goal.returns
unfolding clock_of passed
returns c =
    rw (c.saturating_sub-3.ensures, c.saturating_sub-2.ensures, c.saturating_sub.ensures, c.days_of.ensures.0, c.saturating_sub-months.ensures)
