-- One line, both ways: what was written is read, and only that. Assumes nothing.
use Rattle.std.specs.Prelude.{None, Option, Some}
use Prim.Native.Nat.{ℕ, zero, suc, ◌+◌, ◌-◌, ◌≤◌}
use Rattle.saved_lines.specs.Values.{key_text, zero_amount, above_zero, below_zero, amount_of, letter_of}
use Rattle.saved_lines.specs.Values.{value_of, line_value, amount_text, letter_text, value_text, IsOf}
use Rattle.saved_lines.specs.declared.Key.{Key}
use Rattle.saved_lines.specs.declared.Key.TheVariants.{Form, Floor, Count, Number, Kind, Start, End, Var1, Var2, Struck}
use Rattle.saved_lines.specs.declared.Sort.{Sort}
use Rattle.saved_lines.specs.declared.Sort.TheVariants.{Whole, Amount, Letter}
use Rattle.text.proofs.Cuts.{all_none, same_true, starts_cut}
use Rattle.text.proofs.Numerals.{digit_range, whole_digits}
use Rattle.text.proofs.Tests.{by_test, by_le, and_parts, within_tells}
use Rattle.text.specs.Bytes.{bytes, is, is_digit, within, all, any, same, starts}
use Rattle.text_keyline.proofs.Lines.{line_back, line_own}
use Rattle.text_keyline.specs.Keylines.{line_of, value_in, line_text, if_line, below, ranged, whole_in}
use Rattle.value_bounds.specs.Bounds.{most_number, most_amount}
use Rattle.value_name.proofs.Own.{sequence_own}
use Rattle.value_name.proofs.RoundTrip.{sequence_back, sequence_range}
use Rattle.value_name.specs.Names.{sequence_of, sequence_text}
use borrow.Author.Tests.{lt-ltb, le-ltb, ne_eqb}
use lib.Dec.{eqb, ltb}
use lib.ListN.{drop}
use mathlib.Core.Bool.{Bool, true, false, cond}
use mathlib.Core.List.{List, [], ◌∷◌, ◌++◌}
use mathlib.Core.Path.{◌≡◌, refl, sym, ap, ◌∙◌}
use native.Mathlib.Omega.{arith}

-- ---- a whole number

whole_back : (lo hi v : ℕ) → lo ≤ v → v ≤ hi → v ≤ most_number → whole_in lo hi (sequence_text v) ≡ Some v
unfolding whole_in
whole_back lo hi v a b c = rw (sequence_back v (omega (arith, c)), (within_tells lo hi v).1 (a, b))

pub record Own (lo hi : ℕ) (s : List ℕ) (v : ℕ) : Type 0 where
  pub from : lo ≤ v
  pub to : v ≤ hi
  pub ten : v ≤ most_number
  pub text : s ≡ sequence_text v

pub whole_own : (lo hi : ℕ) (s : List ℕ) (v : ℕ) → whole_in lo hi s ≡ Some v → Own lo hi s v
unfolding whole_in
whole_own lo hi s v e = by_digits (sequence_of s) refl e
  where
    by_bounds : (n : ℕ) (t : Bool) → sequence_of s ≡ Some n → within lo hi n ≡ t → cond t (Some n) None ≡ Some v → Own lo hi s v
    by_bounds n false i w e = let z : ◌≡◌ {A = ℕ} 0 1 = cc in absurd (omega arith)
    by_bounds n true i w e =
        let q : n ≡ v = cc in
        let j : sequence_of s ≡ Some v = rw q at i in
        let b = (within_tells lo hi n).0 w in
        let r = sequence_range s v j in
        record { from = omega (arith, b.0, q); to = omega (arith, b.1, q); ten = omega (arith, r); text = sym (sequence_own s v j) }

    by_digits : (d : Option ℕ) → sequence_of s ≡ d → ranged lo hi d ≡ Some v → Own lo hi s v
    by_digits None i e = let z : ◌≡◌ {A = ℕ} 0 1 = cc in absurd (omega arith)
    by_digits (Some n) i e = by_bounds n (within lo hi n) i refl e

-- digits begin with no `-`
no_minus : (s : List ℕ) → all is_digit s ≡ true → starts (bytes "-") s ≡ false
unfolding all starts
no_minus [] d = refl
no_minus (b ∷ s) d = let r = digit_range b (and_parts (is_digit b) (all is_digit s) d).0 in rw (ne_eqb 45 b (λ e. omega arith))

-- ---- an amount

amount_back : (v : ℕ) → 1 ≤ v → v ≤ zero_amount + most_amount → amount_of (amount_text v) ≡ Some v
unfolding amount_of amount_text starts
amount_back v a b =
    by_le zero_amount v
    (λ h.
    let n : v - zero_amount ≤ most_amount = omega arith in
    let m : zero_amount + (v - zero_amount) ≡ v = omega arith in
    rw (
      le-ltb v zero_amount h,
      no_minus (sequence_text (v - zero_amount)) (whole_digits 9 (v - zero_amount)),
      whole_back 0 most_amount (v - zero_amount)
          (omega arith) n (omega arith),
      m,
    ))
    (λ h.
    let n : zero_amount - v ≤ most_amount = omega arith in
    let m : zero_amount - (zero_amount - v) ≡ v = omega arith in
    rw (lt-ltb v zero_amount h, whole_back 1 most_amount (zero_amount - v) (omega arith) n (omega arith), m))

abbrev AmountOwn : List ℕ → ℕ → Type 0
AmountOwn s v = (1 ≤ v) × (v ≤ zero_amount + most_amount) × (s ≡ amount_text v)

amount_own : (s : List ℕ) (v : ℕ) → amount_of s ≡ Some v → AmountOwn s v
unfolding amount_of amount_text
amount_own s v e =
    by_test (starts (bytes "-") s) (λ y. under y (whole_in 1 most_amount (drop 1 s)) refl (rw y at e)) (λ n. over (whole_in 0 most_amount s) refl (rw n at e))
  where
    under : starts (bytes "-") s ≡ true → (d : Option ℕ) → whole_in 1 most_amount (drop 1 s) ≡ d → below_zero d ≡ Some v → AmountOwn s v
    under y None i e = let z : ◌≡◌ {A = ℕ} 0 1 = cc in absurd (omega arith)
    under y (Some n) i e =
        let o = whole_own 1 most_amount (drop 1 s) n i in
        let q : zero_amount - n ≡ v = cc in
        let lo = o.from in
        let hi = o.to in
        let m : zero_amount - v ≡ n = omega arith in
        (omega arith, omega arith, rw (lt-ltb v zero_amount (omega arith), m) (starts_cut (bytes "-") s y ∙ ap (λ (l : List ℕ). 45 ∷ l) o.text))

    over : (d : Option ℕ) → whole_in 0 most_amount s ≡ d → above_zero d ≡ Some v → AmountOwn s v
    over None i e = let z : ◌≡◌ {A = ℕ} 0 1 = cc in absurd (omega arith)
    over (Some n) i e =
        let o = whole_own 0 most_amount s n i in
        let q : zero_amount + n ≡ v = cc in
        let hi = o.to in
        let m : v - zero_amount ≡ n = omega arith in
        (omega arith, omega arith, rw (le-ltb v zero_amount (omega arith), m) o.text)

-- ---- a kind's letter

letter_back : (v : ℕ) → v ≤ 1 → letter_of (letter_text v) ≡ Some v
unfolding letter_of letter_text same
letter_back zero h = refl
letter_back (suc zero) h = refl
letter_back (suc (suc v)) h = absurd (omega arith)

letter_own : (s : List ℕ) (v : ℕ) → letter_of s ≡ Some v → (v ≤ 1) × (s ≡ letter_text v)
unfolding letter_of letter_text
letter_own s v e =
    by_test (same (bytes "M") s) (λ y. market y (rw y at e)) (λ n. by_test (same (bytes "F") s) (λ y. mfrr y (rw (n, y) at e)) (λ m. neither (rw (n, m) at e)))
  where
    market : same (bytes "M") s ≡ true → Some 0 ≡ Some v → (v ≤ 1) × (s ≡ letter_text v)
    market y e = let q : 0 ≡ v = cc in (omega arith, rw (sym q) (sym (same_true (bytes "M") s y)))

    mfrr : same (bytes "F") s ≡ true → Some 1 ≡ Some v → (v ≤ 1) × (s ≡ letter_text v)
    mfrr y e = let q : 1 ≡ v = cc in (omega arith, rw (sym q) (sym (same_true (bytes "F") s y)))

    neither : None ≡ Some v → (v ≤ 1) × (s ≡ letter_text v)
    neither e = let z : ◌≡◌ {A = ℕ} 0 1 = cc in absurd (omega arith)

-- ---- any value

value_back : (x : Sort) (v : ℕ) → IsOf x v → value_of x (value_text x v) ≡ Some v
value_back Whole v h = sequence_back v (omega (arith, h))
value_back Amount v h = amount_back v h.0 h.1
value_back Letter v h = letter_back v h

value_own : (x : Sort) (s : List ℕ) (v : ℕ) → value_of x s ≡ Some v → IsOf x v × (s ≡ value_text x v)
value_own Whole s v e = (omega (arith, sequence_range s v e), sym (sequence_own s v e))
value_own Amount s v e = let o = amount_own s v e in ((o.0, o.1), o.2)
value_own Letter s v e = letter_own s v e

ranged_own : (lo hi : ℕ) (d : Option ℕ) (v : ℕ) → ranged lo hi d ≡ Some v → (d ≡ Some v) × (lo ≤ v) × (v ≤ hi)
ranged_own lo hi None v e = let z : ◌≡◌ {A = ℕ} 0 1 = cc in absurd (omega arith)
ranged_own lo hi (Some n) v e = by_bounds (within lo hi n) refl e
  where
    by_bounds : (t : Bool) → within lo hi n ≡ t → cond t (Some n) None ≡ Some v → (Some n ≡ Some v) × (lo ≤ v) × (v ≤ hi)
    by_bounds false w e = let z : ◌≡◌ {A = ℕ} 0 1 = cc in absurd (omega arith)
    by_bounds true w e = let q : n ≡ v = cc in let b = (within_tells lo hi n).0 w in (rw q, omega (arith, b.0, q), omega (arith, b.1, q))

-- no value has an LF, and no key

digits_clean : (v : ℕ) → any (is 10) (sequence_text v) ≡ false
digits_clean v = all_none (is 10) is_digit (λ b e. let r = digit_range b e in ne_eqb b 10 (λ z. omega arith)) (sequence_text v) (whole_digits 9 v)

value_clean : (x : Sort) (v : ℕ) → any (is 10) (value_text x v) ≡ false
unfolding amount_text letter_text any
value_clean Whole v = digits_clean v
value_clean Amount v = by_test (ltb v zero_amount) (λ y. rw y (digits_clean (zero_amount - v))) (λ n. rw n (digits_clean (v - zero_amount)))
value_clean Letter v = by_test (eqb v 0) (λ y. rw y) (λ n. rw n)

pub key_clean : (k : Key) → any (is 10) (key_text k) ≡ false
unfolding any
key_clean Form = refl
key_clean Floor = refl
key_clean Count = refl
key_clean Number = refl
key_clean Kind = refl
key_clean Start = refl
key_clean End = refl
key_clean Var1 = refl
key_clean Var2 = refl
key_clean Struck = refl

-- ---- a line

-- THE LAW: what was written is read
pub written : (k : Key) (x : Sort) (v lo hi : ℕ) (rest : List ℕ) → lo ≤ v → v ≤ hi → IsOf x v
    → (line_value k x lo hi (line_text (key_text k) (value_text x v) ++ rest) ≡ Some v) × (below (line_text (key_text k) (value_text x v) ++ rest) ≡ rest)
unfolding line_value
written k x v lo hi rest a b h =
    let w = line_back (key_text k) (value_text x v) rest (key_clean k) (value_clean x v) in
    (rw (w.line_is, w.value_is, value_back x v h, (within_tells lo hi v).1 (a, b)), w.below_is)

-- and only that
pub only : (k : Key) (x : Sort) (lo hi : ℕ) (s : List ℕ) (v : ℕ) → line_value k x lo hi s ≡ Some v
    → (lo ≤ v) × (v ≤ hi) × IsOf x v × (s ≡ line_text (key_text k) (value_text x v) ++ below s)
unfolding line_value
only k x lo hi s v e = by_line (line_of (key_text k) s) refl e
  where
    by_line : (l : Option ℕ) → line_of (key_text k) s ≡ l → if_line l (ranged lo hi (value_of x (value_in (key_text k) s))) ≡ Some v
        → (lo ≤ v) × (v ≤ hi) × IsOf x v × (s ≡ line_text (key_text k) (value_text x v) ++ below s)
    by_line None i e = let z : ◌≡◌ {A = ℕ} 0 1 = cc in absurd (omega arith)
    by_line (Some n) i e =
        let r = ranged_own lo hi (value_of x (value_in (key_text k) s)) v e in
        let o = value_own x (value_in (key_text k) s) v r.0 in
        (r.1, r.2, o.0, line_own (key_text k) s n (key_clean k) i ∙ ap (λ (l : List ℕ). line_text (key_text k) l ++ below s) o.1)
