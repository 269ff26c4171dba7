use Rattle.record_check.proofs.Fields.{Rest}
use Rattle.value.specs.Texts.{rooms_in}
use Rattle.record_check.proofs.all_hold.Given as goal

-- All values are ones that their kinds may hold where all that are left to ask are.
abbrev pub invariant-loop-k : goal.invariant-loop-k
invariant-loop-k l = Rest l.l (rooms_in l.rooms) l.cells l.t l.size l.k
