use Rattle.value_list.proofs.Puts.{Putting}
use Rattle.value_list.specs.Forms.{triple_text}
use lib.ListN.{take}
use Rattle.value_list.proofs.triples.put.Given as goal

-- What is put, with what is left put after it, is the text.
abbrev pub invariant-loop-i : goal.invariant-loop-i
invariant-loop-i l = Putting triple_text 59 (take l.n l.values) l.initial.out l.initial.p l.i l.p l.out
