use Rattle.layout.proofs.Arms.{of_layout}
use Rattle.layout.proofs.Rows.{row_few, in_order}
use Rattle.layout.specs.Rows.{row_fields}
use lib.ListN.{get_or}
use mathlib.Core.Path.{sym, ◌∙◌}
use native.Mathlib.Omega.{arith}
use Rattle.layout.proofs.row.field.Goals as goal

pub exclusion_field-requires : goal.exclusion_field-requires
exclusion_field-requires c = rw (sym c.in-Exclusion.is) c.requires

pub limitation_field-requires : goal.limitation_field-requires
limitation_field-requires c = rw (sym c.in-Limitation.is) c.requires

pub overflow_add-result : goal.overflow_add-result
overflow_add-result c = omega (arith, row_few c.args.l)

pub returns-in-Exclusion : goal.returns-in-Exclusion
returns-in-Exclusion c = c.exclusion_field.ensures ∙ of_layout (λ l. get_or (row_fields l) c.args.i 0) c.in-Exclusion.is

pub returns-in-Limitation : goal.returns-in-Limitation
returns-in-Limitation c = c.limitation_field.ensures ∙ of_layout (λ l. get_or (row_fields l) c.args.i 0) c.in-Limitation.is

pub returns-in_default : goal.returns-in_default
returns-in_default c = in_order c.args.l c.args.i c.requires c.in_default.not-Exclusion c.in_default.not-Limitation
