use Rattle.writer_lines.proofs.Lines.{Sofar}
use Rattle.layout.specs.Layouts.{size_of}
use Rattle.text_lines.specs.Places.{column_in}
use Rattle.writer_lines.proofs.put_text_lines.Given as goal

-- The loop keeps `Sofar`: the first lines are put, with the texts of the file.
abbrev pub invariant-loop-k : goal.invariant-loop-k
invariant-loop-k l = Sofar l.l (column_in (size_of l.l) l.file l.places) l.initial.out l.at l.k l.p l.out
