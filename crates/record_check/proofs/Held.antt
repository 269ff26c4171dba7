-- The values, each by its kind: what their test tells. Assumes nothing.
use Rattle.value_fits.proofs.Decides.{holds_tells}
use Rattle.value_name.specs.declared.MessageType.{MessageType}
use Rattle.text.proofs.Tests.{told, Tells, ◌and◌}
use Rattle.record_valid.proofs.Hold.{hold_length}
use Rattle.record_valid.specs.Valid.{HoldAll}
use Rattle.record_valid.specs.Valid.HoldAll.{end, next}
use Rattle.record_check.specs.Validity.{holds_all}
use Rattle.value.specs.Texts.{Rooms}
use Rattle.value.specs.Valid.{Holds}
use Rattle.value.specs.declared.Kind.{Kind}
use Rattle.value.specs.declared.Value.{Value}
use mathlib.Core.Bool.{false≢true}
use mathlib.Core.List.{List, [], ◌∷◌}
use mathlib.Core.Path.{refl}
use native.Mathlib.Omega.{arith}

module _ (t : MessageType) (r : Rooms) where
  parts : {k : Kind} {ks : List Kind} {v : Value} {vs : List Value} → HoldAll t r (k ∷ ks) (v ∷ vs) → Holds t r k v × HoldAll t r ks vs
  parts (next h hs) = (h, hs)

  pub hold_tells : (ks : List Kind) (vs : List Value) → Tells (holds_all t r ks vs) (HoldAll t r ks vs)
  unfolding holds_all
  hold_tells [] [] = (λ e. end, λ h. refl)
  hold_tells [] (v ∷ vs) = (λ e. absurd (false≢true e), λ h. absurd (omega (arith, hold_length h)))
  hold_tells (k ∷ ks) [] = (λ e. absurd (false≢true e), λ h. absurd (omega (arith, hold_length h)))
  hold_tells (k ∷ ks) (v ∷ vs) = told (holds_tells t r k v and hold_tells ks vs) (λ p. next p.0 p.1) parts
