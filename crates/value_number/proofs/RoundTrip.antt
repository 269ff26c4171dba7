-- A number that is written reads back as itself, what is read is in range, and which bytes a number is written with.
-- The facts about digits are those of the crate `text`, shown once over their count. Assumes nothing.
use Rattle.std.specs.Prelude.{None, Option, Some}
use Prim.Native.Nat.{ℕ, zero, suc, ◌+◌, ◌-◌, ◌*◌, ◌/◌, ◌%◌, ◌^◌, ◌≤◌, ◌<◌}
use Rattle.value_number.proofs.Laws.{number_none, number_minus, number_plus, unsigned_at, unsigned_below}
use Rattle.value_number.proofs.Signs.{abs_neg}
use Rattle.value_number.proofs.Texts.{sign_short, fraction_short}
use Rattle.value_number.specs.Number.{scaled, fraction_of, joined_digits, unsigned_of, plus, minus, number_of, fraction_text, sign_text, number_text}
use Rattle.text.proofs.Cuts.{all_append, all_weaker}
use Rattle.text.proofs.Numerals.{digit_range, length_text, all_text, text_back, first_past, whole_less, whole_back, whole_length, whole_digits, whole_some}
use Rattle.text.proofs.Tests.{by_test, and_parts, within_tells}
use Rattle.text.specs.Bytes.{all, upto, first_of, is_digit, within}
use Rattle.text.specs.Digits.{digits_of, digits_text, whole_text}
use borrow.Author.Tests.{eqb-true, eqb-false}
use lib.Dec.{eqb, lit<, lit≤}
use lib.IntN.{ℤ, pos, negsuc, neg_ℤ, nat_abs}
use lib.ListN.{length, get_or, drop, length-append}
use lib.Seq.{take-append_seam, drop-append_seam}
use mathlib.Core.Bool.{true}
use mathlib.Core.List.{List, [], ◌∷◌, ◌++◌}
use mathlib.Core.Path.{◌≡◌, refl, sym, ap, ◌∙◌}
use native.Mathlib.Nat.{pow-suc, div-add-mod'}
use native.Mathlib.Omega.{arith}

-- ---- the parts read back

-- a unit of k decimals is ten units of k + 1
ten_units : (f q k : ℕ) → suc k ≤ 3 → f ≡ q * 10 → q * 10 ^ (3 - k) ≡ f * 10 ^ (3 - suc k)
ten_units f q k h e =
    let m : 3 - k ≡ suc (3 - suc k) = omega arith in
    rw (m, pow-suc 10 (3 - suc k), e) (omega arith)

-- the fraction, of at most k decimals
fraction_back : (k f : ℕ) → k ≤ 3 → f < 10 ^ k → fraction_of (fraction_text k f) ≡ Some (f * 10 ^ (3 - k))
unfolding fraction_text fraction_of scaled
fraction_back zero f h b = ap Some (omega arith)
fraction_back (suc k) f h b =
    let low : f / 10 < 10 ^ k = omega (arith, pow-suc 10 k) in
    let less = fraction_back k (f / 10) (omega arith) low in
    by_test (eqb (f % 10) 0)
    (λ e. rw e (less ∙ ap Some (ten_units f (f / 10) k h (omega (arith, eqb-true (f % 10) 0 e)))))
    (λ e. rw (e, text_back 3 (suc k) f (omega arith) h b, length_text (suc k) f))

-- a fraction's point is its first byte
point_first : (k f : ℕ) → first_of 46 (fraction_text k f) ≡ 0
unfolding fraction_text upto
point_first zero f = refl
point_first (suc k) f =
    by_test (eqb (f % 10) 0) (λ e. rw e (point_first k (f / 10))) (λ e. rw e)

-- digits begin with no '-'
no_sign : (s t : List ℕ) → 1 ≤ length s → all is_digit s ≡ true → get_or (s ++ t) 0 0 ≡ 45 → ⊥
unfolding all
no_sign [] t h e q = omega arith
no_sign (a ∷ s) t h e q = omega (arith, digit_range a (and_parts (is_digit a) (all is_digit s) e).0)

-- the text of n thousandths, without a sign
abbrev plain : ℕ → List ℕ
plain n = whole_text 6 (n / 1000) ++ fraction_text 3 (n % 1000)

-- a number has room for a seventh digit, which no number in range uses
six_back : (n : ℕ) → n < 1000000000 → digits_of 6 (whole_text 6 (n / 1000)) ≡ Some (n / 1000)
six_back n h =
    let low : n / 1000 < 10 ^ 6 = omega arith in
    ap (digits_of 6) (whole_less 6 (n / 1000) (lit< tt) low) ∙ whole_back 6 5 (n / 1000) (lit≤ tt) low

unsigned_back : (n : ℕ) → n < 1000000000 → unsigned_of (plain n) ≡ Some n
unfolding joined_digits
unsigned_back n h =
    let s = whole_text 6 (n / 1000) in
    let t = fraction_text 3 (n % 1000) in
    let f : fraction_of t ≡ Some (n % 1000) = fraction_back 3 (n % 1000) (lit≤ tt) (omega arith) ∙ ap Some (omega arith) in
    let p : length s ≡ first_of 46 (s ++ t) =
    omega (arith, first_past 46 s t refl (whole_digits 6 (n / 1000)), point_first 3 (n % 1000)) in
    sym (unsigned_at (s ++ t) (length s) (Some (n / 1000)) (Some (n % 1000)) p
    (rw (take-append_seam s t) (sym (six_back n h))) (rw (drop-append_seam s t) (sym f)))
    ∙ ap Some (div-add-mod' n 1000)

-- ---- the number

-- every number of at most six digits before the point is read back from its written form
pub number_back : (v : ℤ) → nat_abs v < 1000000000 → number_of (number_text v) ≡ Some v
unfolding number_text sign_text plus minus
number_back (pos n) h =
    let w = n / 1000 in
    sym (number_plus (plain n) (no_sign _ _ (whole_some 6 w) (whole_digits 6 w))) ∙ ap plus (unsigned_back n h)
number_back (negsuc n) h = sym (number_minus (45 ∷ plain (suc n)) refl) ∙ ap minus (unsigned_back (suc n) h)

-- what is read is in that range
pub number_range : (s : List ℕ) (v : ℤ) → number_of s ≡ Some v → nat_abs v < 1000000000
unfolding minus plus
number_range s v e =
    by_test (eqb (get_or s 0 0) 45)
    (λ t. below_minus (unsigned_of (drop 1 s)) refl (number_minus s (eqb-true _ _ t) ∙ e))
    (λ t. below_plus (unsigned_of s) refl (number_plus s (eqb-false _ _ t) ∙ e))
  where
    below_minus : (d : Option ℕ) → unsigned_of (drop 1 s) ≡ d → minus d ≡ Some v → nat_abs v < 1000000000
    below_minus (Some n) h k =
        let z : neg_ℤ (pos n) ≡ v = cc in
        omega (arith, unsigned_below _ n h, abs_neg (pos n), ap nat_abs z)
    below_minus None h k = let z : ◌≡◌ {A = ℕ} 0 1 = cc in absurd (omega arith)

    below_plus : (d : Option ℕ) → unsigned_of s ≡ d → plus d ≡ Some v → nat_abs v < 1000000000
    below_plus (Some n) h k = let z : pos n ≡ v = cc in omega (arith, unsigned_below _ n h, ap nat_abs z)
    below_plus None h k = let z : ◌≡◌ {A = ℕ} 0 1 = cc in absurd (omega arith)

-- no text is no number
pub number_empty : number_of [] ≡ None
number_empty = sym (number_none [] refl)

-- ---- its bytes, from '-' to '9', and how many they are

digits_bytes : (s : List ℕ) → all is_digit s ≡ true → all (within 45 57) s ≡ true
digits_bytes s h =
    all_weaker (within 45 57) is_digit
    (λ x e. let r = digit_range x e in (within_tells 45 57 x).1 (omega arith, r.1)) s h

sign_bytes : (v : ℤ) → all (within 45 57) (sign_text v) ≡ true
unfolding all sign_text
sign_bytes (pos n) = refl
sign_bytes (negsuc n) = refl

fraction_bytes : (k f : ℕ) → all (within 45 57) (fraction_text k f) ≡ true
unfolding all fraction_text
fraction_bytes zero f = refl
fraction_bytes (suc k) f =
    by_test (eqb (f % 10) 0)
    (λ e. rw e (fraction_bytes k (f / 10)))
    (λ e. rw e (digits_bytes (digits_text (suc k) f) (all_text (suc k) f)))

pub number_bytes : (v : ℤ) → all (within 45 57) (number_text v) ≡ true
unfolding number_text
number_bytes v =
    let w = whole_text 6 (nat_abs v / 1000) in
    all_append (within 45 57) (sign_text v ++ w) _
    (all_append (within 45 57) (sign_text v) w (sign_bytes v) (digits_bytes w (whole_digits 6 (nat_abs v / 1000))))
    (fraction_bytes 3 (nat_abs v % 1000))

number_length : (v : ℤ) → length (number_text v) ≡ length (sign_text v) + length (whole_text 6 (nat_abs v / 1000)) + length (fraction_text 3 (nat_abs v % 1000))
unfolding number_text
number_length v = rw (length-append, length-append)

pub number_some : (v : ℤ) → 1 ≤ length (number_text v)
number_some v = omega (arith, number_length v, whole_some 6 (nat_abs v / 1000))

pub number_short : (v : ℤ) → length (number_text v) ≤ 12
number_short v =
    omega (arith, number_length v, sign_short v, whole_length 6 (nat_abs v / 1000), fraction_short 3 (nat_abs v % 1000))
