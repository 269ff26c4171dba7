use Rattle.record_rules.proofs.Steps.{broken_here, holds_on, lowest_none}
use mathlib.Core.Bool.{not}
use mathlib.Core.Path.{refl, ap, ◌∙◌}
use Rattle.record_rules.proofs.order_alone.Goals as goal

pub returns-then-holds : goal.returns-then-holds
returns-then-holds c = lowest_none ∙ holds_on _ _ _ refl (ap not c.if-holds.true)

pub returns-else-holds : goal.returns-else-holds
returns-else-holds c = broken_here _ _ _ refl (ap not c.if-holds.false)
