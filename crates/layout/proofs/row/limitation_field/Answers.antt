use Rattle.layout.proofs.Arms.{entry}
use Rattle.layout.proofs.Rows.{lb_order}
use Rattle.layout.specs.Rows.{row_fields}
use Rattle.layout.specs.declared.Layout.TheVariants.{Limitation}
use lib.ListN.{get_or}
use native.Mathlib.Omega.{arith}
use Rattle.layout.proofs.row.limitation_field.Goals as goal

-- The minimum, then the maximum; the first four fields are in the order of the body.
pub overflow_add-result : goal.overflow_add-result
unfolding row_fields
overflow_add-result c = omega arith

pub returns-in-4 : goal.returns-in-4
unfolding row_fields
returns-in-4 c = entry (λ i. get_or (row_fields Limitation) i 0) c.in-4.is

pub returns-in-5 : goal.returns-in-5
unfolding row_fields
returns-in-5 c = entry (λ i. get_or (row_fields Limitation) i 0) c.in-5.is

pub returns-in-6 : goal.returns-in-6
unfolding row_fields
returns-in-6 c = entry (λ i. get_or (row_fields Limitation) i 0) c.in-6.is

pub returns-in_default : goal.returns-in_default
returns-in_default c = lb_order c.args.i c.requires c.in_default.in_default-own.rest.0.0.1 c.in_default.in_default-own.rest.0.1 c.in_default.in_default-own.rest.1
