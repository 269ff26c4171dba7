use Rattle.times.specs.Times.{field_no}
use mathlib.Core.Path.{sym, ap}
use Rattle.times.proofs.field_no.Goals as goal

pub returns-in-StartUp : goal.returns-in-StartUp
returns-in-StartUp c = ap field_no (sym c.in-StartUp.is)

pub returns-in-Ramp : goal.returns-in-Ramp
returns-in-Ramp c = ap field_no (sym c.in-Ramp.is)
