use Rattle.layout.specs.declared.Layout.TheVariants.{Market}
use Rattle.record_rules.proofs.Steps.{in_market}
use mathlib.Core.Path.{refl}
use Rattle.record_rules.proofs.lowest_of_market.Goals as goal

pub returns : goal.returns
returns c = in_market Market _ _ _ refl c.of_market.ensures
