use Rattle.reader_line.proofs.Heads.{row_head, line_head}
use Rattle.reader_line.proofs.expected_head.Goals as goal

-- None is expected below one separator.
pub returns-then-seps-eq1 : goal.returns-then-seps-eq1
returns-then-seps-eq1 c = row_head _ _ c.if-seps-eq1.true

pub returns : goal.returns
returns c = line_head _ _ c.if-seps-eq1.false c.head_at.ensures
