use Rattle.reader_line.proofs.Meanings.{empty_foreign, star_told}
use Rattle.reader_line.proofs.is_foreign.Goals as goal

-- One test a return.
pub returns-then-s-eq0 : goal.returns-then-s-eq0
returns-then-s-eq0 c = empty_foreign _ c.if-s-eq0.true

pub returns : goal.returns
returns c = star_told _ c.if-s-eq0.false
