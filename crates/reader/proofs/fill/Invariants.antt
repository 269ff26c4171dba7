use Rattle.layout.specs.Layouts.{size_of}
use Rattle.reader_fill.proofs.Steps.{Head}
use Rattle.reader.proofs.fill.Given as goal

-- The values of the first k fields stand in their cells.
abbrev pub invariant-loop-k : goal.invariant-loop-k
invariant-loop-k l = Head l.l l.file l.places (size_of l.l) l.k l.cells
