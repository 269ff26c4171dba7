use Prim.Native.Nat.{◌*◌}
use Rattle.text.specs.Bytes.{same}
use lib.ListN.{take, drop}
use mathlib.Core.Path.{◌≡◌}
use Rattle.text.proofs.scan.alike.Given as goal

-- The first n of both are the same where those from i on are, and so, once i is past them, where the last eight are.
abbrev pub invariant-loop-k : goal.invariant-loop-k
invariant-loop-k l = same (take l.n l.a) (take l.n l.b) ≡ same (drop (8 * l.k) (take l.n l.a)) (drop (8 * l.k) (take l.n l.b))
