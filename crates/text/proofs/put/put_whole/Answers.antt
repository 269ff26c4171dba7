use Rattle.text.proofs.Runs.{whole_put}
use Rattle.text.proofs.put.put_whole.Goals as goal

pub returns : goal.returns
returns c = whole_put _ _ _ _ _ _ _ c.whole_size-size.ensures.2 c.put_digits.ensures
