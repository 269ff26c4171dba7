use Rattle.std.specs.Prelude.{Ok}
use Rattle.saved.specs.Saved.{head_by}
use Rattle.saved.proofs.Reading.{Reading}
use Rattle.saved.proofs.read_below.Given as goal

-- The loop keeps `Reading`: the orders read so far, with what the rest gives after them, are the orders below the head.
abbrev pub invariant-loop-i : goal.invariant-loop-i
invariant-loop-i l = Reading (head_by (Ok l.h)) l.s l.orders l.i l.least l.line l.rest
