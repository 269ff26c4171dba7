use mir.Syntax.{w32}
use mir.ValLaws.{to_z_pos}
use native.Mathlib.Omega.{arith}
use Rattle.value_number.proofs.positive.Goals as goal

pub returns : goal.returns
returns c = to_z_pos w32 _ (omega arith)
