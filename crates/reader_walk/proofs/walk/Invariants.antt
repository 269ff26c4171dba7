use Prim.Native.Nat.{◌-◌}
use Rattle.reader_walk.proofs.Walking.{Sofar}
use lib.ListN.{length}
use Rattle.reader_walk.proofs.walk.Given as goal

-- The lines passed and what is left make the whole; a line more is passed by one turn.
abbrev pub invariant-loop-at : goal.invariant-loop-at
invariant-loop-at l = Sofar l.t l.s l.at l.frame l.first l.places l.second l.others

abbrev pub decreases-loop-at : goal.decreases-loop-at
decreases-loop-at l = length l.s - l.at
