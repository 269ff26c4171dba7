use Prim.Native.Nat.{◌-◌}
use Rattle.plan.proofs.Walks.{Sofar}
use Rattle.text.specs.Bytes.{any}
use lib.Dec.{ltb}
use lib.ListN.{length, take}
use mathlib.Core.Bool.{false}
use mathlib.Core.Path.{◌≡◌}
use Rattle.plan.proofs.seek.Given as goal

-- One loop over the rows: what is read so far, and what the rest gives below it, is the plan. (r is the place where a row was read.)
abbrev pub invariant-loop-rest : goal.invariant-loop-rest
invariant-loop-rest l =
    (length l.keys ≡ 64) × Sofar l.plan l.ca l.ioa l.keys l.count l.found l.rest × (any (ltb l.greatest) (take l.count l.keys) ≡ false)

abbrev pub decreases-loop-rest : goal.decreases-loop-rest
decreases-loop-rest l = 64 - l.count
