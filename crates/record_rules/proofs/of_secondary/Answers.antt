use Rattle.record_rules.proofs.Steps.{then_rule}
use Rattle.record_rules.proofs.of_secondary.Goals as goal

pub returns : goal.returns
returns c = then_rule _ _ c.order_and.ensures c.banded.ensures
