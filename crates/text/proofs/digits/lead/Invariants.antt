use Prim.Native.Nat.{◌^◌, ◌<◌}
use Rattle.text.specs.Bytes.{skip, is_digit}
use Rattle.text.specs.Digits.{number_in}
use lib.ListN.{take, drop}
use mathlib.Core.Path.{◌≡◌}
use Rattle.text.proofs.digits.lead.Given as goal

-- The digits up to i wrote the value; the run ends there, or as many are read as may be.
abbrev pub invariant-loop-i : goal.invariant-loop-i
invariant-loop-i l =
    record {
      below : l.value < 10 ^ l.i;
      written : l.value ≡ number_in (take l.i l.s);
      skipped : skip is_digit l.s ≡ skip is_digit (drop l.i l.s);
    }
