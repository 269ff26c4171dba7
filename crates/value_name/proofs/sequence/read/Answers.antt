use Rattle.value_name.proofs.Readers.{sequence_zero, sequence_short, sequence_other}
use mathlib.Core.Path.{◌∙◌}
use native.Mathlib.Omega.{arith}
use Rattle.value_name.proofs.sequence.read.Goals as goal

pub returns-then-s-lt2 : goal.returns-then-s-lt2
returns-then-s-lt2 c = c.read_digits.ensures ∙ sequence_short _ c.if-s-lt2.true

pub returns-then-s-eq48 : goal.returns-then-s-eq48
returns-then-s-eq48 c = sequence_zero _ (omega arith) c.if-s-eq48.true

pub returns : goal.returns
returns c = c.read_digits-2.ensures ∙ sequence_other _ c.if-s-eq48.false
