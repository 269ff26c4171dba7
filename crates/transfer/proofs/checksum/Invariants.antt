use Rattle.transfer.proofs.Sums.{Summing}
use Rattle.transfer.proofs.checksum.Given as goal

-- What is summed so far, with what is left, gives the whole sum.
abbrev pub invariant-loop-b : goal.invariant-loop-b
invariant-loop-b l = Summing l.s l.b-index l.sum
