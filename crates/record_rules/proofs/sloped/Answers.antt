use mathlib.Core.Path.{◌∙◌}
use Rattle.record_rules.proofs.sloped.Goals as goal

pub returns : goal.returns
returns c = c.all_rise.ensures ∙ rw c.triples_in.ensures
