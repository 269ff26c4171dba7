use Rattle.layout.specs.declared.Layout.TheVariants.{VoltVar}
use Rattle.record_rules.proofs.Steps.{in_volt_var}
use mathlib.Core.Path.{refl}
use Rattle.record_rules.proofs.lowest_of_volt_var.Goals as goal

pub returns : goal.returns
returns c = in_volt_var VoltVar _ _ _ refl c.of_volt_var.ensures
