use Prim.Native.Nat.{◌^◌, ◌<◌}
use Rattle.text.specs.Bytes.{all, is_digit}
use Rattle.text.specs.Digits.{number_from, number_in}
use lib.ListN.{drop}
use mathlib.Core.Path.{◌≡◌}
use Rattle.text.proofs.digits.read_digits.Given as goal

-- The digits so far wrote acc, and what follows decides the rest.
abbrev pub invariant-loop-b : goal.invariant-loop-b
invariant-loop-b l =
    record {
      below : l.acc < 10 ^ l.b-index;
      written : number_from l.acc (drop l.b-index l.s) ≡ number_in l.s;
      digits : all is_digit (drop l.b-index l.s) ≡ all is_digit l.s;
    }
