use Rattle.record_rules.proofs.Steps.{same_iff}
use mathlib.Core.Bool.{not}
use mathlib.Core.Path.{ap}
use Rattle.record_rules.proofs.quantified.Goals as goal

pub returns : goal.returns
returns c = same_iff c.filled.ensures (ap not c.filled-2.ensures)
