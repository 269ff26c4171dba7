-- Values that are held by their kinds: as many as those, and each by its own. Assumes nothing.
use Prim.Native.Nat.{ℕ, zero, suc, ◌<◌}
use Rattle.layout.specs.Layouts.{no_kind}
use Rattle.value_name.specs.declared.MessageType.{MessageType}
use Rattle.record_valid.specs.Valid.{HoldAll}
use Rattle.record_valid.specs.Valid.HoldAll.{end, next}
use Rattle.value.specs.Texts.{Rooms}
use Rattle.value.specs.Valid.{Holds}
use Rattle.value.specs.declared.Kind.{Kind}
use Rattle.value.specs.declared.Value.{Value}
use Rattle.value.specs.declared.Value.TheVariants.{Blank}
use lib.ListN.{length, get_or}
use mathlib.Core.List.{List}
use mathlib.Core.Path.{◌≡◌, refl, ap}
use native.Mathlib.Omega.{arith}

module _ {t : MessageType} {r : Rooms} where
  pub hold_length : {ks : List Kind} {vs : List Value} → HoldAll t r ks vs → length vs ≡ length ks
  hold_length end = refl
  hold_length (next h hs) = ap suc (hold_length hs)

  -- at the place j, from 0
  pub hold_at : {ks : List Kind} {vs : List Value} → HoldAll t r ks vs → (j : ℕ) → j < length ks → Holds t r (get_or ks j no_kind) (get_or vs j Blank)
  hold_at end j h = absurd (omega arith)
  hold_at (next k ks) zero h = k
  hold_at (next k ks) (suc j) h = hold_at ks j (omega arith)
