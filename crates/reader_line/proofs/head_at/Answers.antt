use Rattle.reader_line.proofs.Heads.{empty_head, printed_head, below_head, above_head}
use Rattle.reader_line.proofs.Labels.{capital_first}
use Rattle.layout_label.proofs.Texts.{label_short}
use mathlib.Core.Path.{sym, ◌∙◌}
use native.Mathlib.Omega.{arith}
use Rattle.reader_line.proofs.head_at.Goals as goal

-- One test a return.
pub returns-then-s-eq0 : goal.returns-then-s-eq0
returns-then-s-eq0 c = empty_head _ _ c.if-s-eq0.true

pub returns-then-is_printed : goal.returns-then-is_printed
returns-then-is_printed c = printed_head _ _ (label_short _ _) (sym c.is_printed.ensures ∙ c.if-is_printed.true)

pub returns-in-65-to-90 : goal.returns-in-65-to-90
returns-in-65-to-90 c = c.head.ensures

pub returns-in_default : goal.returns-in_default
returns-in_default c = below_head _ _ (capital_first _ _) (omega arith)

pub returns-in_default-2 : goal.returns-in_default-2
returns-in_default-2 c = above_head _ _ (capital_first _ _) (omega arith)
