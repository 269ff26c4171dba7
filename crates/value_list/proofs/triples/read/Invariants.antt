use Rattle.value_list.proofs.Cuts.{Sofar}
use Rattle.value_list.specs.Forms.{triple_in, no_triple}
use lib.ListN.{length}
use mathlib.Core.Path.{◌≡◌}
use Rattle.value_list.proofs.triples.read.Given as goal

-- As the reader of numbers, with a triple for a number: the room holds what is read up to `at`, and what is left is the list of the rest.
abbrev pub invariant-loop-n : goal.invariant-loop-n
invariant-loop-n l = (length l.values ≡ 16) × Sofar triple_in 59 no_triple l.s l.at l.n l.values
