use Prim.Native.Nat.{◌-◌}
use Rattle.text.specs.Digits.{digits_text, whole_text}
use mathlib.Core.Path.{◌≡◌}
use Rattle.text.proofs.digits.whole_size.Given as goal

-- Up to the first power of ten that n is below: at each one before it, n fills one digit more.
abbrev pub invariant-loop-j : goal.invariant-loop-j
invariant-loop-j l = whole_text (l.j - 1) l.n ≡ digits_text l.j l.n
