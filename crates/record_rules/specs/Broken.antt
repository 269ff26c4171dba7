-- What the lowest broken rule tells: its number, as docs/REFUSALS.md counts the rules, and 0 where all hold.
use Rattle.std.specs.Prelude.{ℕ, Option, Some, None}
use Rattle.record_rules.specs.declared.Rule.{Rule}
use Rattle.record_rules.specs.declared.Rule.TheVariants.{Order, Update, Profile, Gradients, Exclusion, Limitation, HalfBands, VoltVar, Quantities}

-- THE DEFINITION: its number
abbrev pub rule_number : Rule → ℕ
rule_number Order = 1
rule_number Update = 2
rule_number Profile = 3
rule_number Gradients = 4
rule_number Exclusion = 5
rule_number Limitation = 6
rule_number HalfBands = 7
rule_number VoltVar = 8
rule_number Quantities = 9

abbrev pub broken_number : Option Rule → ℕ
broken_number None = 0
broken_number (Some r) = rule_number r
