use Rattle.value_list.proofs.Puts.{Putting}
use Rattle.value_list.specs.Forms.{list_of}
use Rattle.value_number.specs.Number.{number_text}
use Rattle.value_list.proofs.few.put.Given as goal

-- What is put, with what is left put after it, is the text.
abbrev pub invariant-loop-i : goal.invariant-loop-i
invariant-loop-i l = Putting number_text l.sep (list_of l.x) l.initial.out l.initial.p l.i l.p l.out
