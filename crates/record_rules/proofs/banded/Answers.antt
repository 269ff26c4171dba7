use mathlib.Core.Path.{sym, ◌∙◌}
use Rattle.record_rules.proofs.banded.Goals as goal

pub returns : goal.returns
returns c = rw (sym c.filled.ensures ∙ c.if-filled.false) c.says.ensures
