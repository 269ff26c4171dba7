use Rattle.layout.proofs.Arms.{entry, command_part, technical_part}
use Rattle.layout.specs.Fields.{Field}
use Rattle.layout.specs.Layouts.{fields_of, kinds_of, kind_at, no_kind}
use Rattle.layout.specs.declared.Layout.TheVariants.{Market}
use mathlib.Core.Path.{◌∙◌}
use native.Mathlib.Omega.{arith}
use Rattle.layout_kind.proofs.market_kind.Goals as goal

pub returns-in-0 : goal.returns-in-0
unfolding fields_of kind_at kinds_of
returns-in-0 c = c.may.ensures ∙ entry (kind_at Market) c.in-0.is

pub returns-in-1-to-12 : goal.returns-in-1-to-12
unfolding fields_of kind_at kinds_of
returns-in-1-to-12 c = c.command_kind.ensures ∙ command_part (λ (f : Field). f.kind) no_kind c.args.k (omega arith) (omega arith)

pub returns-in_default : goal.returns-in_default
unfolding fields_of kind_at kinds_of
returns-in_default c = c.technical_kind.ensures ∙ technical_part (λ (f : Field). f.kind) no_kind c.args.k (omega arith)
