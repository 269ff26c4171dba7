-- Reading: what each definition of `specs/Number.antt` is at each way through the code, and the range of what is read.
-- Assumes nothing.
use Rattle.std.specs.Prelude.{None, Option, Some}
use Prim.Native.Nat.{ℕ, ◌+◌, ◌-◌, ◌*◌, ◌^◌, ◌≤◌, ◌<◌}
use Rattle.value_number.specs.Number.{scaled, fraction_of, joined_digits, unsigned_of, plus, minus, number_of}
use Rattle.text.proofs.Cuts.{drop_step}
use Rattle.text.proofs.Numerals.{told, below}
use Rattle.text.specs.Bytes.{upto, first_of}
use Rattle.text.specs.Digits.{digits_of}
use borrow.Author.Tests.{eq-eqb, ne_eqb}
use lib.Dec.{lit<}
use lib.ListN.{length, get_or, take, drop, drop_of_length-le}
use lib.Pow.{pow-add}
use mathlib.Core.List.{List, [], ◌∷◌}
use mathlib.Core.Path.{◌≡◌, refl, sym, ap, ◌∙◌}
use native.Mathlib.Nat.{mul-lt-mul_of_pos_right, one-le-pow}
use native.Mathlib.Omega.{arith}

-- ---- the fraction

module _ (s : List ℕ) (p : ℕ) where
  pub fraction_none : p ≡ length s → Some 0 ≡ fraction_of (drop p s)
  unfolding fraction_of
  fraction_none e = rw (drop_of_length-le s {i = p} (omega arith))

  pub fraction_at : p < length s → scaled (drop (p + 1) s) (digits_of 3 (drop (p + 1) s)) ≡ fraction_of (drop p s)
  unfolding fraction_of
  fraction_at h = rw (drop_step s p h)

-- n of k digits, in units of the last of three
pub thousandths : (n k : ℕ) → n < 10 ^ k → k ≤ 3 → n * 10 ^ (3 - k) < 1000
thousandths n k h l =
    let three : k + (3 - k) ≡ 3 = omega arith in
    let e : 10 ^ k * 10 ^ (3 - k) ≡ 10 ^ 3 = sym (pow-add 10 k (3 - k)) ∙ ap (λ (m : ℕ). 10 ^ m) three in
    omega (arith, e, mul-lt-mul_of_pos_right h (one-le-pow (3 - k) 10 (lit< tt)))

pub fraction_below : (t : List ℕ) (f : ℕ) → fraction_of t ≡ Some f → f < 1000
unfolding fraction_of scaled
fraction_below [] f e = let z : 0 ≡ f = cc in omega arith
fraction_below (b ∷ t) f e = go (digits_of 3 t) refl e
  where
    go : (d : Option ℕ) → digits_of 3 t ≡ d → scaled t d ≡ Some f → f < 1000
    go (Some n) h k =
        let r = told 3 t n h in
        let z : n * 10 ^ (3 - length t) ≡ f = cc in
        omega (arith, thousandths n (length t) r.low r.short)
    go None h k = let z : ◌≡◌ {A = ℕ} 0 1 = cc in absurd (omega arith)

-- ---- the number without its sign

pub unsigned_at : (s : List ℕ) (p : ℕ) (d f : Option ℕ) → p ≡ first_of 46 s → d ≡ digits_of 6 (take p s) → f ≡ fraction_of (drop p s)
    → joined_digits d f ≡ unsigned_of s
unfolding unsigned_of
unsigned_at s p d f e hd hf = cc

pub unsigned_below : (s : List ℕ) (n : ℕ) → unsigned_of s ≡ Some n → n < 1000000000
unfolding unsigned_of joined_digits
unsigned_below s n e = go (digits_of 6 (take p s)) (fraction_of (drop p s)) refl refl e
  where
    p : ℕ
    p = first_of 46 s

    go : (d f : Option ℕ) → digits_of 6 (take p s) ≡ d → fraction_of (drop p s) ≡ f → joined_digits d f ≡ Some n → n < 1000000000
    go (Some w) (Some f) hd hf k = let z : w * 1000 + f ≡ n = cc in omega (arith, below 6 _ w hd, fraction_below _ f hf)
    go (Some w) None hd hf k = let z : ◌≡◌ {A = ℕ} 0 1 = cc in absurd (omega arith)
    go None f hd hf k = let z : ◌≡◌ {A = ℕ} 0 1 = cc in absurd (omega arith)

-- ---- the number

pub number_none : (s : List ℕ) → length s ≡ 0 → None ≡ number_of s
unfolding number_of plus unsigned_of joined_digits digits_of upto
number_none [] e = refl
number_none (b ∷ s) e = absurd (omega arith)

module _ (s : List ℕ) where
  pub number_minus : get_or s 0 0 ≡ 45 → minus (unsigned_of (drop 1 s)) ≡ number_of s
  unfolding number_of
  number_minus e = rw (eq-eqb _ _ e)

  pub number_plus : (get_or s 0 0 ≡ 45 → ⊥) → plus (unsigned_of s) ≡ number_of s
  unfolding number_of
  number_plus e = rw (ne_eqb _ _ e)
