use Prim.Native.Nat.{◌≤◌}
use Rattle.text.specs.Words.{word_of}
use lib.ListN.{drop}
use mathlib.Core.Path.{◌≡◌}
use Rattle.text.proofs.words.upto.Given as goal

-- The number of the bytes from k on; another byte in front is its lowest.
abbrev pub invariant-loop-k : goal.invariant-loop-k
invariant-loop-k l = (l.i ≤ l.k) × (l.w ≡ word_of (drop l.k l.s))
