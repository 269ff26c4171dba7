use Rattle.value.specs.Kinds.{shape_of}
use mathlib.Core.Path.{sym}
use Rattle.value.proofs.read.read_unit.Goals as goal

pub returns-then-is_unit : goal.returns-then-is_unit
unfolding shape_of
returns-then-is_unit c = rw (sym c.is_unit.ensures, c.if-is_unit.true)

pub returns-else-is_unit : goal.returns-else-is_unit
unfolding shape_of
returns-else-is_unit c = rw (sym c.is_unit.ensures, c.if-is_unit.false)
