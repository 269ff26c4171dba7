use Prim.Native.Nat.{◌*◌}
use lib.ListN.{take}
use lib.Seq.{sets}
use mathlib.Core.Path.{◌≡◌}
use Rattle.text.proofs.put.put_first.Given as goal

-- What is put so far is the first i bytes; the last eight of n are put over some of those.
abbrev pub invariant-loop-k : goal.invariant-loop-k
invariant-loop-k l = l.out ≡ sets l.initial.out l.at (take (8 * l.k) l.t)
