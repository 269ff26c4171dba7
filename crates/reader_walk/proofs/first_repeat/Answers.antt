use borrow.Author.Tests.{eq-eqb, ne_eqb}
use Rattle.reader_walk.proofs.first_repeat.Goals as goal

-- The two answers.
pub returns-then-again-eq0 : goal.returns-then-again-eq0
returns-then-again-eq0 c = rw (eq-eqb _ _ c.if-again-eq0.true)

pub returns : goal.returns
returns c = rw (ne_eqb _ _ c.if-again-eq0.false)
