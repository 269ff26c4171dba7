use Prim.Native.Nat.{◌-◌}
use Rattle.value_number.specs.Number.{fraction_text}
use mathlib.Core.Path.{◌≡◌}
use Rattle.value_number.proofs.without_zeros.Given as goal

-- Each turn takes one trailing zero off the decimals.
abbrev pub invariant-loop-cut : goal.invariant-loop-cut
invariant-loop-cut l = fraction_text 3 l.f ≡ fraction_text (3 - l.cut) l.g
