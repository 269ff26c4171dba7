-- A value's text, put by its leaf. Assumes nothing.
use Prim.Native.Nat.{ℕ, ◌+◌, ◌≤◌, ◌<◌}
use Rattle.value_name.specs.declared.MessageType.{MessageType}
use Rattle.text.specs.Puts.{limit, Puts}
use Rattle.value.specs.Texts.{Rooms, value_text}
use Rattle.value.specs.declared.Value.{Value}
use lib.ListN.{length, take, length-take}
use lib.Seq.{sets}
use mathlib.Core.List.{List}
use mathlib.Core.Path.{◌≡◌, sym}
use native.Mathlib.Omega.{arith}

-- the value v is w, whose text a leaf has put
pub shown : (t : MessageType) (R : Rooms) (v w : Value) (l m : List ℕ) (at r : ℕ) (text : List ℕ) → v ≡ w → text ≡ value_text t R w
    → Puts l at text r m → Puts l at (value_text t R v) r m
shown t R v w l m at r text e f p = rw (e, sym f) p

-- a leaf that says its text's length as a number
pub sized : (l m : List ℕ) (at r : ℕ) (text : List ℕ) (k : ℕ) → length text ≡ k → (r ≡ at + k) × (m ≡ sets l at text) → Puts l at text r m
sized l m at r text k e p = rw e p

-- a part of a room, which fits
pub front_fits : (room f : List ℕ) (at n : ℕ) → f ≡ take n room → length room ≤ 256 → at + 2000 < limit → at + length f < limit
front_fits room f at n e h k = rw e (omega (arith, length-take n room))
