-- A date that is written: its length, its bytes, and that it reads back as itself. Each field is digits that read back.
-- Assumes nothing.
use Rattle.std.specs.Prelude.{None, Some}
use Prim.Native.Nat.{ℕ, ◌+◌, ◌/◌, ◌%◌, ◌^◌}
use Rattle.value_date.proofs.Laws.{real_tells, date_is, days_low}
use Rattle.value_date.specs.Date.{fits_byte, shaped, date_shape, date_parts, is_real, Real, date_of, day_text, time_text, letter, letter_text, date_text}
use Rattle.value_date.specs.declared.Date.{Date}
use Rattle.text.proofs.Cuts.{same_refl}
use Rattle.text.proofs.Numerals.{digit_yes, number_back}
use Rattle.text.proofs.Tests.{and_parts, within_tells}
use Rattle.text.specs.Bytes.{all, is_digit, is_plain, is_blank, tidy, trim, skip, skip_end}
use Rattle.text.specs.Digits.{digits_text}
use borrow.Author.Tests.{ne_eqb}
use lib.Dec.{eqb}
use lib.ListN.{length}
use mathlib.Core.Bool.{Bool, true, false, ◌||◌, ◌&&◌, cond}
use mathlib.Core.List.{List}
use mathlib.Core.Path.{◌≡◌, refl, sym, ap, ◌∙◌}
use native.Mathlib.Omega.{arith}

-- ---- its bytes

written : (n : ℕ) → is_digit (48 + n % 10) ≡ true
written n = digit_yes (48 + n % 10) (omega arith) (omega arith)

letter_fits : (z : Bool) → (eqb (letter z) 76 || eqb (letter z) 83) ≡ true
letter_fits true = refl
letter_fits false = refl

letter_back : (z : Bool) → eqb (letter z) 76 ≡ z
letter_back true = refl
letter_back false = refl

letter_plain : (z : Bool) → is_plain (letter z) ≡ true
letter_plain true = refl
letter_plain false = refl

letter_not_blank : (z : Bool) → is_blank (letter z) ≡ false
letter_not_blank true = refl
letter_not_blank false = refl

pub date_length : (d : Date) → length (date_text d) ≡ 21
unfolding date_text day_text time_text letter_text digits_text
date_length d = refl

written_plain : (n : ℕ) → is_plain (48 + n % 10) ≡ true
written_plain n = (within_tells 32 126 (48 + n % 10)).1 (omega arith)

pub date_plain : (d : Date) → all is_plain (date_text d) ≡ true
unfolding all date_text day_text time_text letter_text digits_text
date_plain d = simp (written_plain, letter_plain)

-- it begins with a digit and ends with a letter
date_trim : (d : Date) → trim (date_text d) ≡ date_text d
unfolding trim skip skip_end date_text day_text time_text letter_text digits_text
date_trim d =
    let n : is_blank (48 + d.day / 10 ^ 1 % 10) ≡ false = ne_eqb (48 + d.day / 10 ^ 1 % 10) 32 (λ e. omega arith) in
    rw (n, letter_not_blank d.legal)

pub date_tidy : (d : Date) → tidy (date_text d) ≡ true
unfolding tidy
date_tidy d = rw (date_plain d, date_trim d) (same_refl (date_text d))

-- ---- it reads back

shape_back : (d : Date) → shaped date_shape (date_text d) ≡ true
unfolding shaped fits_byte date_text day_text time_text letter_text digits_text
shape_back d = simp (written, letter_fits)

fields_back : (d : Date) → Real d → date_parts (date_text d) ≡ d
unfolding date_parts date_text day_text time_text letter_text digits_text
fields_back d r =
    let day_is = number_back 2 d.day (omega (arith, days_low d.year d.month)) in
    let month_is = number_back 2 d.month (omega arith) in
    let year_is = number_back 4 d.year (omega arith) in
    let hour_is = number_back 2 d.hour (omega arith) in
    let minute_is = number_back 2 d.minute (omega arith) in
    let second_is = number_back 2 d.second (omega arith) in
    λ i. record {
      year = year_is i;
      month = month_is i;
      day = day_is i;
      hour = hour_is i;
      minute = minute_is i;
      second = second_is i;
      legal = letter_back d.legal i;
    }

-- every real date is read back from its written form
pub date_back : (d : Date) → is_real d ≡ true → date_of (date_text d) ≡ Some d
date_back d e =
    let f = fields_back d ((real_tells d).0 e) in
    sym (date_is (date_text d) (shape_back d) (ap is_real f ∙ e)) ∙ ap Some f

-- what is read is of the shape, and real
pub date_tells : (s : List ℕ) (d : Date) → date_of s ≡ Some d → (shaped date_shape s ≡ true) × ((is_real (date_parts s) ≡ true) × (date_parts s ≡ d))
unfolding date_of
date_tells s d e =
    let y = taken_is (shaped date_shape s && is_real (date_parts s)) (date_parts s) e in
    let p = and_parts (shaped date_shape s) (is_real (date_parts s)) y.0 in
    (p.0, (p.1, y.1))
  where
    taken_is : (t : Bool) (f : Date) → cond t (Some f) None ≡ Some d → (t ≡ true) × (f ≡ d)
    taken_is true f p = (refl, cc)
    taken_is false f p = let z : ◌≡◌ {A = ℕ} 0 1 = cc in absurd (omega arith)

pub date_real : (s : List ℕ) (d : Date) → date_of s ≡ Some d → is_real d ≡ true
date_real s d e = let y = (date_tells s d e).1 in ap is_real (sym y.1) ∙ y.0
