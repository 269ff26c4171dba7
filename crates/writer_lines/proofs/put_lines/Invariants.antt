use Rattle.writer_lines.proofs.Lines.{Sofar}
use Rattle.value.specs.Texts.{rooms_in}
use Rattle.writer_form.proofs.Columns.{column_of}
use Rattle.writer_lines.proofs.put_lines.Given as goal

-- The loop keeps `Sofar`: the first lines are put.
abbrev pub invariant-loop-k : goal.invariant-loop-k
invariant-loop-k l = Sofar l.l (column_of l.l (rooms_in l.rooms) l.cells) l.initial.out l.at l.k l.p l.out
