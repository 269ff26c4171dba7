use Rattle.saved_lines.proofs.Nexts.{no_second}
use mathlib.Core.Path.{◌∙◌}
use Rattle.saved_lines.proofs.tables.second_line.Goals as goal

-- An amount for the kind 0; for any other 0 stands for the second.
pub returns-then-kind-eq0 : goal.returns-then-kind-eq0
returns-then-kind-eq0 c = rw c.if-kind-eq0.true c.amount_line.ensures

pub returns : goal.returns
returns c = c.line.ensures ∙ no_second _ c.if-kind-eq0.false
