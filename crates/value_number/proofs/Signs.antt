-- What the machine makes of the sign and the magnitude of an `i32`: a signed value is stored as its bits (`of_z`) and read back (`to_z`).
-- Assumes nothing.
use Prim.Native.Nat.{ℕ, zero, suc, ◌<◌}
use Rattle.value_number.specs.Number.{sign_text}
use borrow.Author.Tests.{ltb-true}
use lib.Dec.{T, lit<}
use lib.IntN.{ℤ, pos, negsuc, neg_ℤ, nat_abs, ◌-ℤ◌, +ℤ_idl}
use lib.Signed.{lt_z, non_neg}
use mathlib.Core.Bool.{true, false, true≢false}
use mathlib.Core.List.{[], ◌∷◌}
use mathlib.Core.Path.{◌≡◌, refl}
use mir.Syntax.{w32, w64}
use mir.Val.{Fits, SFits, to_z, of_z}
use mir.ValLaws.{to_z-of_z}
use native.Mathlib.Omega.{arith}

pub wide : (v : ℤ) → SFits w32 v → SFits w64 v
wide v h = record { sfits = omega arith }

pub wide_neg : (v : ℤ) → SFits w32 v → SFits w64 (neg_ℤ v)
wide_neg (pos zero) h = record { sfits = lit< tt }
wide_neg (pos (suc n)) h = record { sfits = omega arith }
wide_neg (negsuc n) h = record { sfits = omega arith }

pub negative_fits : (n : ℕ) → n < 1000000000 → SFits w32 (neg_ℤ (pos n))
negative_fits zero h = record { sfits = lit< tt }
negative_fits (suc n) h = record { sfits = omega arith }

-- 0 less the value, at 64 bits
pub turned : (v : ℤ) → SFits w32 v → pos 0 -ℤ to_z w64 (of_z w64 (to_z w32 (of_z w32 v))) ≡ neg_ℤ v
turned v h = rw (to_z-of_z w32 v h, to_z-of_z w64 v (wide v h)) (+ℤ_idl (neg_ℤ v))

pub turned_back : (v : ℤ) → SFits w32 v → to_z w64 (of_z w64 (pos 0 -ℤ to_z w64 (of_z w64 (to_z w32 (of_z w32 v))))) ≡ neg_ℤ v
turned_back v h = rw (turned v h) (to_z-of_z w64 (neg_ℤ v) (wide_neg v h))

pub abs_neg : (v : ℤ) → nat_abs (neg_ℤ v) ≡ nat_abs v
abs_neg (pos zero) = refl
abs_neg (pos (suc n)) = refl
abs_neg (negsuc n) = refl

-- a test `v < 0` that passed, and one that failed
pub below_zero : (v : ℤ) → SFits w32 v → lt_z v (pos 0) ≡ true → T (non_neg (neg_ℤ v)) × Fits w64 (nat_abs (neg_ℤ v))
below_zero (pos n) h t = absurd (omega (arith, ltb-true n 0 t))
below_zero (negsuc n) h t = (tt, record { fits = omega arith })

pub from_zero : (v : ℤ) → SFits w32 v → lt_z v (pos 0) ≡ false → T (non_neg v) × Fits w64 (nat_abs v)
from_zero (pos n) h t = (tt, record { fits = omega arith })
from_zero (negsuc n) h t = absurd (true≢false t)

pub sign_minus : (v : ℤ) → lt_z v (pos 0) ≡ true → sign_text v ≡ 45 ∷ []
unfolding sign_text
sign_minus (pos n) t = absurd (omega (arith, ltb-true n 0 t))
sign_minus (negsuc n) t = refl

pub sign_none : (v : ℤ) → lt_z v (pos 0) ≡ false → sign_text v ≡ []
unfolding sign_text
sign_none (pos n) t = refl
sign_none (negsuc n) t = absurd (true≢false t)
