use Rattle.record_rules.proofs.Steps.{broken_here, holds_on, lowest_none}
use mathlib.Core.Path.{◌∙◌}
use mathlib.Core.Bool.{not}
use mathlib.Core.Path.{ap}
use Rattle.record_rules.proofs.of_market.Goals as goal

pub returns-then-not-in_order : goal.returns-then-not-in_order
returns-then-not-in_order c = broken_here _ _ _ c.in_order.ensures (ap not c.if-not-in_order.true)

pub returns-then-not-updated : goal.returns-then-not-updated
returns-then-not-updated c =
    broken_here _ _ _ c.updated.ensures (ap not c.if-not-updated.true) ∙ holds_on _ _ _ c.in_order.ensures (ap not c.if-not-in_order.false)

pub returns-then-not-profiled : goal.returns-then-not-profiled
returns-then-not-profiled c =
    broken_here _ _ _ c.profiled.ensures (ap not c.if-not-profiled.true) ∙ holds_on _ _ _ c.updated.ensures (ap not c.if-not-updated.false)
    ∙ holds_on _ _ _ c.in_order.ensures (ap not c.if-not-in_order.false)

pub returns-then-not-sloped : goal.returns-then-not-sloped
returns-then-not-sloped c =
    broken_here _ _ _ c.sloped.ensures (ap not c.if-not-sloped.true) ∙ holds_on _ _ _ c.profiled.ensures (ap not c.if-not-profiled.false)
    ∙ holds_on _ _ _ c.updated.ensures (ap not c.if-not-updated.false)
    ∙ holds_on _ _ _ c.in_order.ensures (ap not c.if-not-in_order.false)

pub returns : goal.returns
returns c =
    lowest_none ∙ holds_on _ _ _ c.sloped.ensures (ap not c.if-not-sloped.false) ∙ holds_on _ _ _ c.profiled.ensures (ap not c.if-not-profiled.false)
    ∙ holds_on _ _ _ c.updated.ensures (ap not c.if-not-updated.false)
    ∙ holds_on _ _ _ c.in_order.ensures (ap not c.if-not-in_order.false)
