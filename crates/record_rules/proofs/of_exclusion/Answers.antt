use Rattle.record_rules.proofs.Steps.{then_rule}
use Rattle.record_rules.proofs.of_exclusion.Goals as goal

pub returns : goal.returns
returns c = then_rule _ _ c.order_and.ensures c.excluded.ensures
