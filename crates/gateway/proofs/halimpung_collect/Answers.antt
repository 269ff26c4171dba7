use Rattle.gateway.proofs.Collected.{collected, few, within}
use mathlib.Core.Path.{refl}
use Rattle.gateway.proofs.halimpung_collect.Goals as goal

pub code_of_heard-code-requires : goal.code_of_heard-code-requires
code_of_heard-code-requires c = λ o is w some. few _ _ _ _ c.collector_in-c.ensures _ _ c.take-taken.ensures w (within _ is some)

pub returns : goal.returns
returns c =
    collected _ _ _ _ c.collector_in-c.ensures _ _ c.take-taken.ensures _ c.state_of.ensures _ refl _ c.code_of_heard-code.ensures
