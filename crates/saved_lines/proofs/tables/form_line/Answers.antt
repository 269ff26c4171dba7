use Rattle.saved_lines.specs.Tables.{form_lines}
use Rattle.text.proofs.Tables.{no_arm}
use Rattle.saved_lines.proofs.tables.form_line.Goals as goal

-- The arm is the entry of the table at its number; past it there is none.
pub returns-in-0 : goal.returns-in-0
returns-in-0 c = rw c.in-0.is c.line.ensures

pub returns-in_default : goal.returns-in_default
returns-in_default c = no_arm _ form_lines _ c.in_default.in_default-own.rest
