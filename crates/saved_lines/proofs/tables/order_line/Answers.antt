use Rattle.saved_lines.proofs.Nexts.{arm, start_arm, end_arm, second_arm}
use mathlib.Core.Path.{◌∙◌}
use Rattle.saved_lines.proofs.tables.order_line.Goals as goal

pub returns-in-0 : goal.returns-in-0
returns-in-0 c = arm _ _ 0 c.in-0.is c.line.ensures

pub returns-in-1 : goal.returns-in-1
returns-in-1 c = arm _ _ 1 c.in-1.is c.line-in-1.ensures

pub returns-in-2 : goal.returns-in-2
returns-in-2 c = c.line-in-2.ensures ∙ start_arm _ _ _ _ c.in-2.is c.apart_of.ensures

pub returns-in-3 : goal.returns-in-3
returns-in-3 c = c.line-in-3.ensures ∙ end_arm _ _ _ _ _ c.in-3.is c.apart_of-in-3.ensures c.later.ensures

pub returns-in-4 : goal.returns-in-4
returns-in-4 c = arm _ _ 4 c.in-4.is c.amount_line.ensures

pub returns-in-5 : goal.returns-in-5
returns-in-5 c = second_arm _ _ _ _ c.in-5.is c.second_line.ensures

pub returns-in-6 : goal.returns-in-6
returns-in-6 c = arm _ _ 6 c.in-6.is c.line-in-6.ensures
