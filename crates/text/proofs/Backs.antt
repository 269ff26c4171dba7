-- Digits that were read, written again: the same digits. Shown once, over the number of digits. Assumes nothing.
use Rattle.std.specs.Prelude.{Some}
use Prim.Native.Nat.{ℕ, zero, suc, ◌+◌, ◌-◌, ◌*◌, ◌/◌, ◌%◌, ◌^◌, ◌≤◌, ◌<◌}
use Rattle.text.proofs.Numerals.{digit_range, taken, told, whole}
use Rattle.text.proofs.Tests.{by_le, and_parts}
use Rattle.text.specs.Bytes.{all, is_digit}
use Rattle.text.specs.Digits.{number_from, number_in, digits_of, digits_text, whole_text}
use lib.Dec.{lit<}
use lib.ListN.{length, get_or}
use mathlib.Core.Bool.{true}
use mathlib.Core.List.{List, [], ◌∷◌}
use mathlib.Core.Path.{◌≡◌, refl, sym, ap, ap₂, ◌∙◌}
use native.Mathlib.Nat.{le_refl, pow-suc, one-le-pow, pow-le-pow_right, mul-le-mul_right, add-mul-div_right, div-eq_of_lt}
use native.Mathlib.Omega.{arith}

-- what stands before them adds its multiple of their power of ten
number_shift : (acc : ℕ) (d : List ℕ) → number_from acc d ≡ acc * 10 ^ length d + number_from 0 d
unfolding number_from
number_shift acc [] = omega arith
number_shift acc (b ∷ d) =
    let x : 0 * 10 + (b - 48) ≡ b - 48 = omega arith in
    let e = ap (λ (n : ℕ). number_from n d) x in
    number_shift (acc * 10 + (b - 48)) d ∙ rw (pow-suc 10 (length d)) (omega (arith, number_shift (b - 48) d, e))

-- and changes none of their digits
digits_shift : (k a r : ℕ) → digits_text k (a * 10 ^ k + r) ≡ digits_text k r
unfolding digits_text
digits_shift zero a r = refl
digits_shift (suc k) a r =
    let e : a * 10 ^ suc k + r ≡ a * 10 * 10 ^ k + r = rw (pow-suc 10 k) (omega arith) in
    let f : a * 10 * 10 ^ k + r ≡ r + a * 10 * 10 ^ k = omega arith in
    let q : (r + a * 10 * 10 ^ k) / 10 ^ k ≡ r / 10 ^ k + a * 10 = add-mul-div_right r (a * 10) (one-le-pow k 10 (lit< tt)) in
    let m : (r / 10 ^ k + a * 10) % 10 ≡ r / 10 ^ k % 10 = omega arith in
    ap₂ (λ (x : ℕ) (t : List ℕ). (48 + x) ∷ t)
    (ap (λ (n : ℕ). n / 10 ^ k % 10) (e ∙ f) ∙ ap (λ (n : ℕ). n % 10) q ∙ m)
    (ap (digits_text k) e ∙ digits_shift k (a * 10) r)

pub number_low : (d : List ℕ) → all is_digit d ≡ true → number_in d < 10 ^ length d
unfolding number_from
number_low [] e = omega arith
number_low (b ∷ d) e =
    (told (length (b ∷ d)) (b ∷ d) (number_in (b ∷ d)) (sym (taken (length (b ∷ d)) (b ∷ d) (omega arith) (le_refl (length (b ∷ d))) e))).low

-- digits are the digits of the number that they write
pub digits_back : (d : List ℕ) → all is_digit d ≡ true → digits_text (length d) (number_in d) ≡ d
unfolding digits_text all number_from
digits_back [] h = refl
digits_back (b ∷ d) h =
    let o = and_parts (is_digit b) (all is_digit d) h in
    let r = digit_range b o.0 in
    let p = 10 ^ length d in
    let n : number_in (b ∷ d) ≡ (b - 48) * p + number_in d = number_shift (0 * 10 + (b - 48)) d ∙ omega arith in
    let f : (b - 48) * p + number_in d ≡ number_in d + (b - 48) * p = omega arith in
    let q : (number_in d + (b - 48) * p) / p ≡ number_in d / p + (b - 48) = add-mul-div_right (number_in d) (b - 48) (one-le-pow (length d) 10 (lit< tt)) in
    let z : number_in d / p ≡ 0 = div-eq_of_lt (number_low d o.1) in
    let x : 48 + (number_in d / p + (b - 48)) % 10 ≡ b = omega (arith, z, r) in
    ap₂ (λ (y : ℕ) (t : List ℕ). y ∷ t)
    (ap (λ (m : ℕ). 48 + m / p % 10) (n ∙ f) ∙ ap (λ (m : ℕ). 48 + m % 10) q ∙ x)
    (ap (digits_text (length d)) n ∙ digits_shift (length d) (b - 48) (number_in d) ∙ digits_back d o.1)

-- and so a text that was read as digits is the number's own
pub read_back : (most : ℕ) (s : List ℕ) (n : ℕ) → digits_of most s ≡ Some n → digits_text (length s) n ≡ s
read_back most s n e =
    let t = told most s n e in
    ap (digits_text (length s)) (sym t.value) ∙ digits_back s t.all_digits

-- ---- without leading zeros

-- a first digit other than 0 counts in full
first_counts : (d : List ℕ) → all is_digit d ≡ true → 1 ≤ length d → (get_or d 0 0 ≡ 48 → ⊥) → 10 ^ (length d - 1) ≤ number_in d
unfolding number_from all
first_counts [] a h n = absurd (omega arith)
first_counts (b ∷ d) a h n =
    let r = digit_range b (and_parts (is_digit b) (all is_digit d) a).0 in
    let k : suc (length d) - 1 ≡ length d = omega arith in
    let o : 1 ≤ 0 * 10 + (b - 48) = omega (arith, n) in
    rw k (omega (arith, number_shift (0 * 10 + (b - 48)) d, mul-le-mul_right (10 ^ length d) o))

-- digits that begin with no 0 (48), unless they are one, are the number's own text
module _ (k : ℕ) (d : List ℕ) (a : all is_digit d ≡ true) (some : 1 ≤ length d) (few : length d ≤ k + 1) (first : 2 ≤ length d → get_or d 0 0 ≡ 48 → ⊥) where
  as_many : (whole k (number_in d)).count ≡ length d
  as_many =
      let w = whole k (number_in d) in
      let low = number_low d a in
      let fits = w.holds (omega (arith, low, pow-le-pow_right {n = 10} (lit< tt) few)) in
      by_le w.count (length d)
      (λ h. by_le (length d) w.count (λ g. omega arith)
      (λ g. absurd (omega (arith, fits, first_counts d a some (first (omega (arith, w.some))), pow-le-pow_right {n = 10} (lit< tt) (less w.count g)))))
      (λ h. absurd (omega (arith, low, w.needed (omega arith), pow-le-pow_right {n = 10} (lit< tt) (more w.count h))))
    where
      less : (c : ℕ) → c < length d → c ≤ length d - 1
      less c h = omega arith

      more : (c : ℕ) → length d < c → length d ≤ c - 1
      more c h = omega arith

  pub whole_own : whole_text k (number_in d) ≡ d
  whole_own =
      let w = whole k (number_in d) in
      w.text ∙ ap (λ (n : ℕ). digits_text n (number_in d)) as_many ∙ digits_back d a
