use Rattle.record_rules.proofs.Steps.{same_iff}
use Rattle.record_rules.proofs.updated.Goals as goal

pub returns : goal.returns
returns c = same_iff c.filled.ensures c.says.ensures
