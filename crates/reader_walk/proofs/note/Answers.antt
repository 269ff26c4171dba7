use Rattle.reader_walk.proofs.Marking.{note_none, note_again, note_new, note_fits}
use Rattle.reader_walk.proofs.note.Goals as goal

-- The cases of `noted_of`, one a return.
pub returns-then-k-eq0 : goal.returns-then-k-eq0
returns-then-k-eq0 c = note_none _ _ c.if-k-eq0.true

pub returns-then-m-bit-eq1 : goal.returns-then-m-bit-eq1
returns-then-m-bit-eq1 c = note_again _ _ c.if-k-eq0.false c.if-m-bit-eq1.true _ c.first_repeat.ensures

pub overflow_add-result : goal.overflow_add-result
overflow_add-result c =
    record { fits = note_fits c.args.m c.args.k c.if-k-eq0.false c.requires.0 c.requires.1 }

pub returns : goal.returns
returns c = note_new _ _ c.if-k-eq0.false c.requires.0 c.if-m-bit-eq1.false
