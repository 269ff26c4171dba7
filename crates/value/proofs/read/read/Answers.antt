use Rattle.value.specs.Kinds.{value_of}
use Rattle.value.proofs.read.read.Goals as goal

-- A blank where one may stand, or the shape.
pub returns-then-k-s : goal.returns-then-k-s
unfolding value_of
returns-then-k-s c = rw c.if-k-s.true

pub returns : goal.returns
unfolding value_of
returns c = rw c.if-k-s.false c.read_shape.ensures
