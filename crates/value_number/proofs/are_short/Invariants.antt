use Rattle.value_number.specs.Number.{before_at, short_from, are_short}
use lib.ListN.{drop}
use mathlib.Core.Path.{◌≡◌}
use Rattle.value_number.proofs.are_short.Given as goal

-- What is left decides, with the byte before it.
abbrev pub invariant-loop-i : goal.invariant-loop-i
invariant-loop-i l = are_short l.s ≡ short_from (before_at l.i l.s) l.fraction (drop l.i l.s)
