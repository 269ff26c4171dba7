-- Digits: one step along them, what is told of digits that were read, and that digits which are written read back.
-- All of it is shown once, over the number of digits. Assumes nothing.
use Rattle.std.specs.Prelude.{None, Some}
use Prim.Native.Nat.{ℕ, zero, suc, ◌+◌, ◌-◌, ◌*◌, ◌/◌, ◌%◌, ◌^◌, min, ◌≤◌, ◌<◌}
use Rattle.text.proofs.Cuts.{drop_step, skip_length}
use Rattle.text.proofs.Fronts.{run_here, run_end}
use Rattle.text.proofs.Tests.{by_le, and_parts, within_tells}
use Rattle.text.specs.Bytes.{all, is_digit, skip, upto, first_of, run_of}
use Rattle.text.specs.Digits.{number_from, number_in, digits_of, lead_of, digits_text, whole_text}
use borrow.Author.Tests.{le-leb, lt-leb, leb-true, ne_eqb, lt-ltb, le-ltb}
use lib.Arith.{mod-mul}
use lib.Dec.{leb, lit<}
use lib.ListN.{length, get_or, take, drop, length-drop, drop_of_length-le}
use lib.Seq.{take-suc}
use mathlib.Core.Bool.{Bool, true, false, ◌&&◌, and-false, cond, true≢false}
use mathlib.Core.List.{List, [], ◌∷◌, ◌++◌}
use mathlib.Core.Path.{◌≡◌, refl, sym, ap, ◌∙◌}
use native.Mathlib.Nat.{le_refl, pow-suc, pow-succ', one-le-pow, pow-le-pow_right, mul-le-mul_right, mod-eq_of_lt, div-one, div-div-eq-div-mul}
use native.Mathlib.Nat.{le-div_iff_mul-le, div-lt_iff_lt-mul}
use native.Mathlib.Numerals.{add-one}
use native.Mathlib.Omega.{arith}

-- ---- a digit

pub digit_range : (b : ℕ) → is_digit b ≡ true → (48 ≤ b) × (b ≤ 57)
digit_range b e = (within_tells 48 57 b).0 e

pub digit_yes : (b : ℕ) → 48 ≤ b → b ≤ 57 → is_digit b ≡ true
digit_yes b h k = (within_tells 48 57 b).1 (h, k)

-- ---- reading

pub number_step : (acc : ℕ) (s : List ℕ) (i : ℕ) → i < length s → number_from acc (drop i s) ≡ number_from (acc * 10 + (get_or s i 0 - 48)) (drop (i + 1) s)
unfolding number_from
number_step acc s i h = rw (drop_step s i h)

pub number_end : (acc : ℕ) (s : List ℕ) (i : ℕ) → length s ≤ i → number_from acc (drop i s) ≡ acc
unfolding number_from
number_end acc s i h = rw (drop_of_length-le s h)

-- one more digit: what is written stays below the next power of ten
pub grows : (i acc b : ℕ) → acc < 10 ^ i → is_digit b ≡ true → acc * 10 + (b - 48) < 10 ^ (i + 1)
grows i acc b h e = rw add-one (omega (arith, digit_range b e, pow-suc 10 i))

pub refused_empty : (most : ℕ) (s : List ℕ) → length s ≡ 0 → None ≡ digits_of most s
unfolding digits_of
refused_empty most s e = rw e

pub refused_long : (most : ℕ) (s : List ℕ) → most < length s → None ≡ digits_of most s
unfolding digits_of
refused_long most s h = simp (lt-leb _ _ h, and-false)

pub refused_other : (most : ℕ) (s : List ℕ) → all is_digit s ≡ false → None ≡ digits_of most s
unfolding digits_of
refused_other most s e = simp (e, and-false)

pub taken : (most : ℕ) (s : List ℕ) → 1 ≤ length s → length s ≤ most → all is_digit s ≡ true → Some (number_in s) ≡ digits_of most s
unfolding digits_of
taken most s h k e = simp (e, le-leb _ _ h, le-leb _ _ k)

-- what is written is no less than what was written before
number_least : (acc : ℕ) (s : List ℕ) → acc ≤ number_from acc s
unfolding number_from
number_least acc [] = le_refl acc
number_least acc (b ∷ s) = omega (arith, number_least (acc * 10 + (b - 48)) s)

-- digits that begin with no zero write no zero
pub number_some : (s : List ℕ) → 1 ≤ length s → all is_digit s ≡ true → (get_or s 0 0 ≡ 48 → ⊥) → 1 ≤ number_in s
unfolding number_from all
number_some [] h e n = absurd (omega arith)
number_some (b ∷ s) h e n =
    let r = digit_range b (and_parts (is_digit b) (all is_digit s) e).0 in
    omega (arith, number_least (0 * 10 + (b - 48)) s, n)

-- ---- the digits at the front of a text

number_last : (acc : ℕ) (l : List ℕ) (b : ℕ) → number_from acc (l ++ b ∷ []) ≡ number_from acc l * 10 + (b - 48)
unfolding number_from
number_last acc [] b = refl
number_last acc (x ∷ l) b = number_last (acc * 10 + (x - 48)) l b

-- one more of them
pub lead_on : (s : List ℕ) (i v : ℕ) → i < length s → v ≡ number_in (take i s) → v * 10 + (get_or s i 0 - 48) ≡ number_in (take (i + 1) s)
lead_on s i v h e =
    rw (e, add-one, take-suc s i 0 h) (sym (number_last 0 (take i s) (get_or s i 0)))

-- another byte, or none, or as many as may be
module _ (s : List ℕ) (most i v : ℕ) (low : i ≤ most) (so_far : skip is_digit s ≡ skip is_digit (drop i s)) (read : v ≡ number_in (take i s)) where
  led : i ≡ min most (run_of is_digit s) → record { count = i; value = v } ≡ lead_of most s
  led e = rw (read, ← e)

  pub lead_here : i < length s → is_digit (get_or s i 0) ≡ false → record { count = i; value = v } ≡ lead_of most s
  lead_here h n = led (omega (arith, run_here is_digit s i so_far h n))

  pub lead_end : i ≡ min (length s) most → record { count = i; value = v } ≡ lead_of most s
  lead_end e =
      by_le (length s) i (λ k. led (omega (arith, run_end is_digit s i so_far (omega arith) k)))
      (λ k. led (omega (arith, ap length so_far, skip_length is_digit (drop i s), length-drop i s)))

-- digits write less than the power of ten of their count
number_below : (acc : ℕ) (s : List ℕ) → all is_digit s ≡ true → number_from acc s < (acc + 1) * 10 ^ length s
unfolding number_from all
number_below acc [] e = omega arith
number_below acc (b ∷ s) e =
    let p = and_parts (is_digit b) (all is_digit s) e in
    let d : b - 48 ≤ 9 = omega (arith, digit_range b p.0) in
    let h = number_below (acc * 10 + (b - 48)) s p.1 in
    rw (pow-suc 10 (length s)) (omega (arith, h, mul-le-mul_right (10 ^ length s) d))

-- all that is told by digits that were read
pub record Told (most : ℕ) (s : List ℕ) (n : ℕ) : Type 0 where
  pub filled : 1 ≤ length s
  pub short : length s ≤ most
  pub all_digits : all is_digit s ≡ true
  pub value : number_in s ≡ n
  pub low : n < 10 ^ length s

yes : (t : Bool) (v n : ℕ) → cond t (Some v) None ≡ Some n → (t ≡ true) × (v ≡ n)
yes true v n e = (refl, cc)
yes false v n e = let z : ◌≡◌ {A = ℕ} 0 1 = cc in absurd (omega arith)

pub told : (most : ℕ) (s : List ℕ) (n : ℕ) → digits_of most s ≡ Some n → Told most s n
unfolding digits_of
told most s n e =
    let y = yes _ _ _ e in
    let p = and_parts (leb 1 (length s) && leb (length s) most) (all is_digit s) y.0 in
    let q = and_parts (leb 1 (length s)) (leb (length s) most) p.0 in
    record {
      filled = leb-true _ _ q.0;
      short = leb-true _ _ q.1;
      all_digits = p.1;
      value = y.1;
      low = omega (arith, number_below 0 s p.1, y.1);
    }

pub below : (most : ℕ) (s : List ℕ) (n : ℕ) → digits_of most s ≡ Some n → n < 10 ^ most
below most s n e =
    let t = told most s n e in
    omega (arith, t.low, pow-le-pow_right {n = 10} (lit< tt) t.short)

-- ---- writing

pub length_text : (k n : ℕ) → length (digits_text k n) ≡ k
unfolding digits_text
length_text zero n = refl
length_text (suc k) n = ap suc (length_text k n)

-- the last digit, and before it those of a tenth
pub digits_last : (k n : ℕ) → digits_text (suc k) n ≡ digits_text k (n / 10) ++ (48 + n % 10) ∷ []
unfolding digits_text
digits_last zero n = rw div-one
digits_last (suc k) n =
    let e : n / 10 ^ suc k ≡ n / 10 / 10 ^ k = rw (pow-succ' 10 k) (sym (div-div-eq-div-mul n 10 (10 ^ k))) in
    rw e (ap (λ (t : List ℕ). (48 + n / 10 / 10 ^ k % 10) ∷ t) (digits_last k n))

pub all_text : (k n : ℕ) → all is_digit (digits_text k n) ≡ true
unfolding all digits_text
all_text zero n = refl
all_text (suc k) n =
    let d = n / 10 ^ k in
    let y : is_digit (48 + d % 10) ≡ true = digit_yes (48 + d % 10) (omega arith) (omega arith) in
    rw (y, all_text k n)

number_text : (acc k n : ℕ) → number_from acc (digits_text k n) ≡ acc * 10 ^ k + n % 10 ^ k
unfolding number_from digits_text
number_text acc zero n = omega arith
number_text acc (suc k) n =
    let d = n / 10 ^ k % 10 in
    let e : 48 + d - 48 ≡ d = omega arith in
    let m : n % 10 ^ suc k ≡ d * 10 ^ k + n % 10 ^ k =
    rw (pow-succ' 10 k) (mod-mul n {m = 10} {c = 10 ^ k} (lit< tt) (one-le-pow k 10 (lit< tt))) in
    ap (λ (x : ℕ). number_from (acc * 10 + x) (digits_text k n)) e ∙ number_text (acc * 10 + d) k n ∙ rw (m, pow-suc 10 k) (omega arith)

pub number_back : (k n : ℕ) → n < 10 ^ k → number_in (digits_text k n) ≡ n
number_back k n b = number_text 0 k n ∙ omega (arith, mod-eq_of_lt b)

-- n written with enough digits reads back as n
pub text_back : (most k n : ℕ) → 1 ≤ k → k ≤ most → n < 10 ^ k → digits_of most (digits_text k n) ≡ Some n
text_back most k n h l b =
    sym (taken most (digits_text k n) (rw length_text h) (rw length_text l) (all_text k n)) ∙ ap Some (number_back k n b)

-- a byte that is no digit first stands past the digits
pub first_past : (b : ℕ) (s t : List ℕ) → is_digit b ≡ false → all is_digit s ≡ true → first_of b (s ++ t) ≡ length s + first_of b t
unfolding upto all
first_past b [] t h e = omega arith
first_past b (a ∷ s) t h e =
    let p = and_parts (is_digit a) (all is_digit s) e in
    let ne : a ≡ b → ⊥ = λ q. true≢false (sym p.0 ∙ ap is_digit q ∙ h) in
    rw (ne_eqb a b ne) (omega (arith, first_past b s t h p.1))

-- ---- without leading zeros

-- one turn of the search for the first digit, and its two ends
pub whole_less : (k n : ℕ) → 0 < k → n < 10 ^ k → whole_text k n ≡ whole_text (k - 1) n
unfolding whole_text
whole_less zero n h b = absurd (omega arith)
whole_less (suc k) n h b = let e : suc k - 1 ≡ k = omega arith in rw (lt-ltb n (10 ^ suc k) b, e)

-- fewer digits hold it
pub whole_low : (k j n : ℕ) → 0 < j → j ≤ k → n < 10 ^ j → whole_text k n ≡ whole_text (j - 1) n
whole_low zero j n h g b = absurd (omega arith)
whole_low (suc k) j n h g b =
    let e : suc k - 1 ≡ k = omega arith in
    let less : n < 10 ^ suc k = omega (arith, pow-le-pow_right {n = 10} (lit< tt) g) in
    let step : whole_text (suc k) n ≡ whole_text k n = rw e at (whole_less (suc k) n (omega arith) less) in
    by_le j k (λ f. step ∙ whole_low k j n h f b)
    (λ f. let q : k ≡ j - 1 = omega arith in step ∙ ap (λ (m : ℕ). whole_text m n) q)

pub whole_found : (k n : ℕ) → 0 < k → 10 ^ k ≤ n → whole_text k n ≡ digits_text (k + 1) n
unfolding whole_text
whole_found zero n h b = absurd (omega arith)
whole_found (suc k) n h b = rw (le-ltb n (10 ^ suc k) b, add-one)

pub whole_last : (k n : ℕ) → k ≤ 0 → whole_text k n ≡ digits_text 1 n
unfolding whole_text
whole_last zero n h = refl
whole_last (suc k) n h = absurd (omega arith)

-- the text of n without leading zeros is that of some digits that hold n, and of more than one only where it needs them
pub record Whole (most n : ℕ) : Type 0 where
  pub count : ℕ
  pub some : 1 ≤ count
  pub few : count ≤ most + 1
  pub text : whole_text most n ≡ digits_text count n
  pub holds : n < 10 ^ (most + 1) → n < 10 ^ count
  pub needed : 1 < count → 10 ^ (count - 1) ≤ n

pub whole : (most n : ℕ) → Whole most n
unfolding whole_text
whole zero n =
    record { count = 1; some = omega arith; few = omega arith; text = refl; holds = λ h. h; needed = λ h. absurd (omega arith) }
whole (suc k) n =
    by_le (10 ^ suc k) n
    (λ h. record {
      count = suc (suc k);
      some = omega arith;
      few = omega arith;
      text = rw (le-ltb n (10 ^ suc k) h);
      holds = λ b. rw add-one at b;
      needed = λ g. let e : suc (suc k) - 1 ≡ suc k = omega arith in rw e h;
    })
    (λ h. let w = whole k n in record {
      count = w.count;
      some = w.some;
      few = omega arith;
      text = rw (lt-ltb n (10 ^ suc k) h) w.text;
      holds = λ b. w.holds (rw add-one h);
      needed = w.needed;
    })

pub whole_length : (most n : ℕ) → length (whole_text most n) ≤ most + 1
whole_length most n =
    let w = whole most n in
    omega (arith, ap length w.text, length_text w.count n, w.few)

pub whole_digits : (most n : ℕ) → all is_digit (whole_text most n) ≡ true
whole_digits most n = let w = whole most n in ap (all is_digit) w.text ∙ all_text w.count n

pub whole_some : (most n : ℕ) → 1 ≤ length (whole_text most n)
whole_some most n =
    let w = whole most n in
    omega (arith, ap length w.text, length_text w.count n, w.some)

-- n written without leading zeros reads back as n
pub whole_back : (most k n : ℕ) → k + 1 ≤ most → n < 10 ^ (k + 1) → digits_of most (whole_text k n) ≡ Some n
whole_back most k n h b =
    let w = whole k n in
    ap (digits_of most) w.text ∙ text_back most w.count n w.some (omega (arith, w.few)) (w.holds b)

-- a number of k + 1 digits does not begin with 0
pub first_digit : (k n : ℕ) → 10 ^ k ≤ n → n < 10 ^ (k + 1) → (get_or (digits_text (k + 1) n) 0 0 ≡ 48 → ⊥)
unfolding digits_text
first_digit k n h b =
    let z : 0 < 10 ^ k = one-le-pow k 10 (lit< tt) in
    let low : 1 ≤ n / 10 ^ k = (le-div_iff_mul-le z).1 (omega arith) in
    let high : n / 10 ^ k < 10 = (div-lt_iff_lt-mul z).1 (omega (arith, pow-suc 10 k, ap (λ (m : ℕ). 10 ^ m) (add-one k))) in
    rw (add-one k) (λ e. omega arith)
