use Rattle.std.proofs.lemmas.Bool.Decides.{nat_tests}
use native.Mathlib.Omega.{arith}
use Rattle.transfer.proofs.state.turn_in.Goals as goal

-- Every other number.
pub returns-in_default : goal.returns-in_default
returns-in_default c = grind (arith, nat_tests)
