use Rattle.book_places.proofs.Ends.{first_sooner, second_sooner}
use Rattle.book_places.proofs.sooner.Goals as goal

-- Test by test as the definition says.
pub returns-then-a-eq0 : goal.returns-then-a-eq0
returns-then-a-eq0 c = rw c.if-a-eq0.true

pub returns-then-b-a : goal.returns-then-b-a
returns-then-b-a c = let a = c.args in second_sooner a.a a.b c.if-a-eq0.false c.if-b-a.true

pub returns : goal.returns
returns c = let a = c.args in first_sooner a.a a.b c.if-a-eq0.false c.if-b-a.false
