use borrow.Author.Tests.{eq-eqb, ne_eqb}
use Rattle.reader_walk.proofs.row_of.Goals as goal

-- The two answers.
pub returns-then-f-eq0 : goal.returns-then-f-eq0
returns-then-f-eq0 c = rw (eq-eqb _ _ c.if-f-eq0.true)

pub returns : goal.returns
returns c = rw (ne_eqb _ _ c.if-f-eq0.false)
