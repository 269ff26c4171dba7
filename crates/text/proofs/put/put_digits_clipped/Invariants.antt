use Rattle.text.specs.Digits.{digits_text}
use lib.Seq.{sets}
use mathlib.Core.Path.{◌≡◌}
use Rattle.text.proofs.put.put_digits_clipped.Given as goal

-- The digits put so far, with those of what is left put before them, are all the digits put.
abbrev pub invariant-loop-j : goal.invariant-loop-j
invariant-loop-j l = sets l.out l.at (digits_text l.j l.m) ≡ sets l.initial.out l.at (digits_text l.k l.n)
