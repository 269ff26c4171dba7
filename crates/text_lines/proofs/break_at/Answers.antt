use Rattle.text_lines.proofs.Leaves.{break_end, break_line, break_alone, break_pair, break_bad}
use Rattle.text_lines.proofs.break_at.Goals as goal

-- The answers of `break_of`, one a return.
pub returns-then-at-s : goal.returns-then-at-s
returns-then-at-s c = break_end _ _ c.if-at-s.true

pub returns-then-s-at-eq10 : goal.returns-then-s-at-eq10
returns-then-s-at-eq10 c = break_line _ _ c.requires c.if-at-s.false c.if-s-at-eq10.true

pub returns-then-at-s-2 : goal.returns-then-at-s-2
returns-then-at-s-2 c = break_alone _ _ c.if-at-s-2.true c.if-s-at-eq10.false

pub returns-then-s-at : goal.returns-then-s-at
returns-then-s-at c =
    break_pair _ _ c.requires c.if-at-s.false c.if-at-s-2.false c.if-s-at-eq10.false c.if-s-at.true

pub returns : goal.returns
returns c =
    break_bad _ _ c.requires c.if-at-s.false c.if-at-s-2.false c.if-s-at-eq10.false c.if-s-at.false
