use mathlib.Core.Path.{◌∙◌}
use mir.Syntax.{w32}
use mir.ValLaws.{to_z-of_z}
use Rattle.value_number.proofs.signed.Goals as goal

pub returns-then-minus : goal.returns-then-minus
returns-then-minus c = to_z-of_z w32 c.negative.result (record { sfits = c.negative.type_inv }) ∙ c.negative.ensures ∙ rw c.if-minus.true

pub returns : goal.returns
returns c = to_z-of_z w32 c.positive.result (record { sfits = c.positive.type_inv }) ∙ c.positive.ensures ∙ rw c.if-minus.false
