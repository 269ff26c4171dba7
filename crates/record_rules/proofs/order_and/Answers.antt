use Rattle.record_rules.proofs.Steps.{broken_here, holds_on, lowest_none}
use mathlib.Core.Path.{refl, ◌∙◌}
use mathlib.Core.Bool.{not}
use mathlib.Core.Path.{ap}
use Rattle.record_rules.proofs.order_and.Goals as goal

pub returns-then-not-in_order : goal.returns-then-not-in_order
returns-then-not-in_order c = broken_here _ _ _ c.in_order.ensures (ap not c.if-not-in_order.true)

pub returns-then-not-holds : goal.returns-then-not-holds
returns-then-not-holds c = broken_here _ _ _ refl (ap not c.if-not-holds.true) ∙ holds_on _ _ _ c.in_order.ensures (ap not c.if-not-in_order.false)

pub returns : goal.returns
returns c = lowest_none ∙ holds_on _ _ _ refl (ap not c.if-not-holds.false) ∙ holds_on _ _ _ c.in_order.ensures (ap not c.if-not-in_order.false)
