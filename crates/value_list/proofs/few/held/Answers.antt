use Rattle.value_list.proofs.Lines.{held_are}
use native.Mathlib.Omega.{arith}
use Rattle.value_list.proofs.few.held.Goals as goal

pub returns : goal.returns
returns c = omega (arith, held_are c.args.x)
