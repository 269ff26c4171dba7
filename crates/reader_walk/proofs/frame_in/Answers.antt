use Rattle.reader_walk.proofs.Marking.{frame_row, frame_out}
use Rattle.reader_walk.specs.State.{frame_of}
use Rattle.reader_walk.proofs.frame_in.Goals as goal

pub returns-then-separator : goal.returns-then-separator
unfolding frame_of
returns-then-separator c = rw c.if-separator.true

pub returns-then-f-eq1 : goal.returns-then-f-eq1
returns-then-f-eq1 c = rw c.if-separator.false (frame_row _ _ c.if-f-eq1.true _ c.row_of.ensures)

pub returns : goal.returns
returns c = rw c.if-separator.false (frame_out _ _ c.if-f-eq1.false)
