use Rattle.saved.proofs.Valued.{lowered_below, lowered_from}
use mathlib.Core.Path.{◌∙◌}
use mir.Syntax.{w32}
use mir.ValLaws.{to_z-of_z}
use Rattle.saved.proofs.orders.lowered.Goals as goal

pub returns-then-v-lt-ZERO_AMOUNT : goal.returns-then-v-lt-ZERO_AMOUNT
returns-then-v-lt-ZERO_AMOUNT c =
    to_z-of_z w32 c.negative.result (record { sfits = c.negative.type_inv }) ∙ c.negative.ensures ∙ lowered_below _ c.if-v-lt-ZERO_AMOUNT.true

pub returns : goal.returns
returns c =
    to_z-of_z w32 c.positive.result (record { sfits = c.positive.type_inv }) ∙ c.positive.ensures ∙ lowered_from _ c.if-v-lt-ZERO_AMOUNT.false
