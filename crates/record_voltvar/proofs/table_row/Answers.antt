use Rattle.record_voltvar.proofs.Steps.{row_at, row_last}
use Rattle.record_voltvar.specs.Table.{table}
use mathlib.Core.Path.{◌∙◌}
use Rattle.record_voltvar.proofs.table_row.Goals as goal

pub returns-in-0 : goal.returns-in-0
unfolding table
returns-in-0 c = c.row_of.ensures ∙ row_at c.in-0.is

pub returns-in-1 : goal.returns-in-1
unfolding table
returns-in-1 c = c.row_of-in-1.ensures ∙ row_at c.in-1.is

pub returns-in-2 : goal.returns-in-2
unfolding table
returns-in-2 c = c.row_of-in-2.ensures ∙ row_at c.in-2.is

pub returns-in-3 : goal.returns-in-3
unfolding table
returns-in-3 c = c.row_of-in-3.ensures ∙ row_at c.in-3.is

pub returns-in-4 : goal.returns-in-4
unfolding table
returns-in-4 c = c.row_of-in-4.ensures ∙ row_at c.in-4.is

pub returns-in-5 : goal.returns-in-5
unfolding table
returns-in-5 c = c.row_of-in-5.ensures ∙ row_at c.in-5.is

pub returns-in-6 : goal.returns-in-6
unfolding table
returns-in-6 c = c.row_of-in-6.ensures ∙ row_at c.in-6.is

pub returns-in-7 : goal.returns-in-7
unfolding table
returns-in-7 c = c.row_of-in-7.ensures ∙ row_at c.in-7.is

pub returns-in-8 : goal.returns-in-8
unfolding table
returns-in-8 c = c.row_of-in-8.ensures ∙ row_at c.in-8.is

pub returns-in-9 : goal.returns-in-9
unfolding table
returns-in-9 c = c.row_of-in-9.ensures ∙ row_at c.in-9.is

pub returns-in_default : goal.returns-in_default
unfolding table
returns-in_default c = c.row_of-in_default.ensures ∙ row_last _ c.in_default.in_default-own.rest c.requires
