use Rattle.layout.specs.Layouts.{size_of}
use Rattle.writer.proofs.Looks.{Asked}
use Rattle.writer.proofs.stands_written.Given as goal

-- The first ones stand as they are written: those that are left decide.
abbrev pub invariant-loop-k : goal.invariant-loop-k
invariant-loop-k l = Asked (size_of l.fn.l) l.cells l.file l.places l.k
