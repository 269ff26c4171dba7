use Rattle.saved_lines.proofs.Putting.{Put}
use Rattle.saved_lines.specs.Tables.{next_of}
use Rattle.saved_lines.proofs.put_item.Given as goal

-- One loop over the lines: what is put so far is the text of the values so far.
abbrev pub invariant-loop-n : goal.invariant-loop-n
invariant-loop-n l = Put (next_of l.t l.a) l.initial.out l.at l.v l.count l.n l.p l.out
