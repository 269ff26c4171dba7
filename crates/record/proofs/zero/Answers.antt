use Rattle.record.specs.Records.{zero_record}
use mathlib.Core.Path.{refl}
use Rattle.record.proofs.zero.Goals as goal

-- All zero, by computation.
pub returns : goal.returns
unfolding zero_record
returns c = refl
