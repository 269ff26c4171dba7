use Rattle.value_date.specs.Date.{hours_ahead}
use mathlib.Core.Path.{sym, ap}
use Rattle.value_date.proofs.ahead_of.Goals as goal

-- The hours of each letter.
pub returns-then-legal : goal.returns-then-legal
returns-then-legal c = ap hours_ahead (sym c.if-legal.true)

pub returns-else-legal : goal.returns-else-legal
returns-else-legal c = ap hours_ahead (sym c.if-legal.false)
