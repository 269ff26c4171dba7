use Rattle.saved_lines.proofs.Nexts.{apart_two}
use Rattle.saved_lines.proofs.tables.apart_of.Goals as goal

-- A second for the kind 0, two for any other.
pub returns-then-kind-eq0 : goal.returns-then-kind-eq0
returns-then-kind-eq0 c = rw c.if-kind-eq0.true

pub returns : goal.returns
returns c = apart_two _ c.if-kind-eq0.false
