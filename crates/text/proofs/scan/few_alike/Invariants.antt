use Rattle.text.specs.Bytes.{same}
use lib.ListN.{take, drop}
use mathlib.Core.Path.{◌≡◌}
use Rattle.text.proofs.scan.few_alike.Given as goal

-- The first n of both are the same where those from i on are.
abbrev pub invariant-loop-i : goal.invariant-loop-i
invariant-loop-i l = (same (take l.n l.a) (take l.n l.b) ≡ same (drop l.i (take l.n l.a)) (drop l.i (take l.n l.b)))
