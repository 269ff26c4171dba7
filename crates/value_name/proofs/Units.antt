-- The bytes of a unit, as ranges of numbers. Assumes nothing.
use Prim.Native.Nat.{ℕ, ◌≤◌}
use Rattle.value_name.specs.Names.{is_unit_byte}
use Rattle.text.proofs.Tests.{Tells, within_tells, eqb_tells}
use mathlib.Core.Bool.{Bool, true, false, ◌||◌, false≢true}
use mathlib.Core.Logic.{◌⊎◌, inl, inr, ⊎_elim}
use mathlib.Core.Path.{◌≡◌, refl}

infixl 4 ◌or◌
◌or◌ : {A B : Type 0} {a b : Bool} → Tells a A → Tells b B → Tells (a || b) (A ⊎ B)
◌or◌ {a = true} p q = (λ e. inl (p.0 refl), λ h. refl)
◌or◌ {a = false} p q = (λ e. inr (q.0 e), ⊎_elim (λ h. absurd (false≢true (p.1 h))) q.1)

-- what the test of a byte tells: a digit, an upper-case letter, `_`, a lower-case letter
abbrev pub UnitByte : ℕ → Type 0
UnitByte b = ((((48 ≤ b) × (b ≤ 57)) ⊎ ((65 ≤ b) × (b ≤ 90))) ⊎ (b ≡ 95)) ⊎ ((97 ≤ b) × (b ≤ 122))

pub unit_tells : (b : ℕ) → Tells (is_unit_byte b) (UnitByte b)
unit_tells b = within_tells 48 57 b or within_tells 65 90 b or eqb_tells b 95 or within_tells 97 122 b

-- by the four kinds
pub by_kind : {X : Type 0} (b : ℕ) → UnitByte b → ((48 ≤ b) × (b ≤ 57) → X) → ((65 ≤ b) × (b ≤ 90) → X) → (b ≡ 95 → X) → ((97 ≤ b) × (b ≤ 122) → X) → X
by_kind b u p q r t = ⊎_elim (⊎_elim (⊎_elim p q) r) t u
