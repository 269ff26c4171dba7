use Rattle.value_date.specs.Date.{instant_of}
use Rattle.value_date.proofs.instant.Goals as goal

pub returns : goal.returns
unfolding instant_of
returns c = rw (c.saturating_sub.ensures, c.ahead_of.ensures, c.clock.ensures)
