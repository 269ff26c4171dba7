use Rattle.writer_row.proofs.Rows.{Sofar}
use Rattle.value.specs.Texts.{rooms_in}
use Rattle.writer_row.proofs.put_pieces.Given as goal

-- The loop keeps `Sofar`: after the first value, the others up to a place are put. The values stand in the cells before their fields' numbers.
abbrev pub invariant-loop-i : goal.invariant-loop-i
invariant-loop-i l = Sofar l.l (rooms_in l.rooms) l.cells l.initial.out l.initial.p l.i l.p l.out
