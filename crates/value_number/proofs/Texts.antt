-- Writing: one step of the fraction's text along the number of its decimals, the texts' lengths, and the text of a number from the parts that the
-- code computes. Assumes nothing.
use Prim.Native.Nat.{ℕ, zero, suc, ◌+◌, ◌-◌, ◌/◌, ◌%◌, ◌≤◌, ◌<◌}
use Rattle.value_number.specs.Number.{fraction_text, decimals_text, sign_text, number_text}
use Rattle.text.proofs.Numerals.{length_text}
use Rattle.text.proofs.Tests.{by_test}
use Rattle.text.specs.Digits.{digits_text, whole_text}
use borrow.Author.Tests.{eq-eqb, ne_eqb}
use lib.Dec.{eqb}
use lib.IntN.{ℤ, pos, negsuc, nat_abs}
use lib.ListN.{length}
use mathlib.Core.List.{[], ◌∷◌, ◌++◌}
use mathlib.Core.Path.{◌≡◌, refl}
use native.Mathlib.Omega.{arith}

-- ---- decimals without their trailing zeros

pub fraction_less : (k f : ℕ) → 0 < k → f % 10 ≡ 0 → fraction_text k f ≡ fraction_text (k - 1) (f / 10)
unfolding fraction_text
fraction_less zero f h e = absurd (omega arith)
fraction_less (suc k) f h e = let p : suc k - 1 ≡ k = omega arith in rw (p, eq-eqb _ _ e)

pub fraction_here : (k f : ℕ) → 0 < k → (f % 10 ≡ 0 → ⊥) → fraction_text k f ≡ decimals_text k f
unfolding fraction_text decimals_text
fraction_here zero f h e = absurd (omega arith)
fraction_here (suc k) f h e = rw (ne_eqb _ _ e)

pub fraction_last : (k f : ℕ) → k ≤ 0 → fraction_text k f ≡ decimals_text 0 0
unfolding fraction_text decimals_text
fraction_last zero f h = refl
fraction_last (suc k) f h = absurd (omega arith)

pub decimals_none : (k f : ℕ) → k ≡ 0 → [] ≡ decimals_text k f
unfolding decimals_text
decimals_none zero f e = refl
decimals_none (suc k) f e = absurd (omega arith)

pub decimals_some : (k f : ℕ) → (k ≡ 0 → ⊥) → 46 ∷ digits_text k f ≡ decimals_text k f
unfolding decimals_text
decimals_some zero f e = absurd (e refl)
decimals_some (suc k) f e = refl

-- ---- lengths

pub sign_short : (v : ℤ) → length (sign_text v) ≤ 1
unfolding sign_text
sign_short (pos n) = omega arith
sign_short (negsuc n) = omega arith

pub fraction_short : (k f : ℕ) → length (fraction_text k f) ≤ k + 1
unfolding fraction_text
fraction_short zero f = omega arith
fraction_short (suc k) f =
    let r = fraction_short k (f / 10) in
    by_test (eqb (f % 10) 0) (λ e. rw e (omega arith)) (λ e. rw e (omega (arith, length_text (suc k) f)))

-- ---- the parts, one after the other

pub text_is : (v : ℤ) (m a b : ℕ) → m ≡ nat_abs v → fraction_text 3 (m % 1000) ≡ decimals_text a b
    → sign_text v ++ whole_text 6 (m / 1000) ++ decimals_text a b ≡ number_text v
unfolding number_text
text_is v m a b e h = rw (← e, h)
