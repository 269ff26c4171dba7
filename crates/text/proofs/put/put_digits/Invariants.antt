use Prim.Native.Nat.{◌-◌, ◌*◌}
use Rattle.text.specs.Digits.{digits_text}
use lib.Seq.{sets}
use mathlib.Core.Path.{◌≡◌}
use Rattle.text.proofs.put.put_digits.Given as goal

-- With room for all of them: the digits put so far, with those of what is left put before them, are all the digits put.
abbrev pub invariant-loop-i : goal.invariant-loop-i
invariant-loop-i l =
    sets l.out l.at (digits_text (l.k - 2 * l.i) l.m) ≡ sets l.initial.out l.at (digits_text l.k l.n)
