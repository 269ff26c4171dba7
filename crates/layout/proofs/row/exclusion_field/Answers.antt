use Rattle.layout.proofs.Arms.{entry}
use Rattle.layout.proofs.Rows.{eb_order}
use Rattle.layout.specs.Rows.{row_fields}
use Rattle.layout.specs.declared.Layout.TheVariants.{Exclusion}
use lib.ListN.{get_or}
use native.Mathlib.Omega.{arith}
use Rattle.layout.proofs.row.exclusion_field.Goals as goal

-- The last field is the seventh, those before are in the order of the body.
pub overflow_add-result : goal.overflow_add-result
unfolding row_fields
overflow_add-result c = omega arith

pub returns-in-4 : goal.returns-in-4
unfolding row_fields
returns-in-4 c = entry (λ i. get_or (row_fields Exclusion) i 0) c.in-4.is

pub returns-in_default : goal.returns-in_default
returns-in_default c = eb_order c.args.i c.requires c.in_default.in_default-own.rest.1
