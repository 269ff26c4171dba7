-- Each turn fills a byte or more; the buffer keeps its length.
use Rattle.std.proofs.Common.{◌-◌, ◌≡◌, length}
use Rattle.cases.proofs.read_ahead.Given as goal

abbrev pub invariant-loop-full : goal.invariant-loop-full
invariant-loop-full g l = length l.buf ≡ length l.initial.buf

abbrev pub decreases-loop-full : goal.decreases-loop-full
decreases-loop-full g l = length l.initial.buf - l.full
