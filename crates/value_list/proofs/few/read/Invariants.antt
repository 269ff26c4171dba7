use Rattle.value_list.proofs.Cuts.{Sofar}
use Rattle.value_list.specs.Forms.{amount_of}
use lib.IntN.{pos}
use lib.ListN.{length}
use mathlib.Core.Path.{◌≡◌}
use Rattle.value_list.proofs.few.read.Given as goal

-- The room holds what is read up to `at`, and what is left is the list of the rest.
abbrev pub invariant-loop-n : goal.invariant-loop-n
invariant-loop-n l = (length l.values ≡ 4) × Sofar amount_of l.sep (pos 0) l.s l.at l.n l.values
