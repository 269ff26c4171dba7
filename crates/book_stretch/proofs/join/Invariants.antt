use Rattle.book_stretch.proofs.Turns.{After}
use Rattle.book_stretch.proofs.join.Given as goal

-- What has come of the four is joined.
abbrev pub invariant-loop-c : goal.invariant-loop-c
invariant-loop-c l = After l.fn.s l.c-items l.c-index l.all
