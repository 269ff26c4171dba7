use Rattle.saved_lines.specs.Tables.{head_lines}
use Rattle.text.proofs.Tables.{no_arm}
use Rattle.saved_lines.proofs.tables.head_line.Goals as goal

-- Each arm is the entry of the table at its number; past them there is none.
pub returns-in-0 : goal.returns-in-0
returns-in-0 c = rw c.in-0.is c.line.ensures

pub returns-in-1 : goal.returns-in-1
returns-in-1 c = rw c.in-1.is c.line-in-1.ensures

pub returns-in_default : goal.returns-in_default
returns-in_default c = no_arm _ head_lines _ c.in_default.in_default-own.rest
