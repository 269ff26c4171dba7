use Rattle.value_date.specs.Date.{is_real}
use Rattle.value_date.proofs.is_real.Goals as goal

pub returns : goal.returns
unfolding is_real
returns c = rw c.days_in-last.ensures
