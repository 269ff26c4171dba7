use Rattle.saved_lines.proofs.Going.{Going}
use Rattle.saved_lines.specs.Tables.{next_of}
use Rattle.saved_lines.proofs.read_item.Given as goal

-- The loop keeps `Going`: what is read so far, with what the rest gives after it, is the item.
abbrev pub invariant-loop-n : goal.invariant-loop-n
invariant-loop-n l = Going (next_of l.t l.a) l.s l.v l.n l.rest
