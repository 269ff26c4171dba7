-- Laws of the definitions of `specs/Date.antt`: the shape along the bytes, the fields that it makes digits, and the calendar.
-- Assumes nothing.
use Rattle.std.specs.Prelude.{None, Option, Some}
use Prim.Native.Nat.{ℕ, zero, suc, ◌+◌, ◌-◌, ◌*◌, ◌%◌, ◌^◌, ◌≤◌, ◌<◌}
use Rattle.value_date.specs.Date.{fits_byte, shaped, date_shape, field_at, date_parts, leap, days_in, is_real, Real, date_of, days_of, hours_ahead, day_text}
use Rattle.value_date.specs.Date.{time_text, letter, letter_text, date_text}
use Rattle.value_date.specs.declared.Date.{Date}
use Rattle.text.proofs.Numerals.{taken, below, length_text}
use Rattle.text.proofs.Runs.{Run, puts, puts_of, then}
use Rattle.text.proofs.Tests.{Tells, leb_tells, within_tells, ◌and◌, and_parts, by_test, by_le, cond_le}
use Rattle.text.specs.Bytes.{all, is_digit}
use Rattle.text.specs.Digits.{digits_of, digits_text}
use Rattle.text.specs.Puts.{limit}
use borrow.Author.Tests.{le-leb, leb-true, eq-eqb, ne_eqb, eqb-true}
use Rattle.std.specs.List.{list_all, zip}
use lib.Dec.{eqb, leb, lit≤}
use lib.ListN.{length, take, drop, length-drop}
use lib.Seq.{length-take-le, sets}
use mathlib.Core.Bool.{Bool, true, false, ◌&&◌, ◌||◌, false≢true}
use mathlib.Core.List.{List, [], ◌∷◌}
use mathlib.Core.Logic.{◌⊎◌, inl, inr}
use mathlib.Core.Path.{◌≡◌, refl, sym, ap, ◌∙◌}
use native.Mathlib.Nat.{add-sub_cancel_left}
use native.Mathlib.Numerals.{add-one}
use native.Mathlib.Omega.{arith}

-- ---- a byte of the shape

module _ (p b : ℕ) where
  pub fits_digit : p ≡ 48 → is_digit b ≡ fits_byte p b
  unfolding fits_byte
  fits_digit e = rw e

  pub fits_letter : p ≡ 76 → (eqb b 76 || eqb b 83) ≡ fits_byte p b
  unfolding fits_byte
  fits_letter e = rw e

  pub fits_self : (p ≡ 48 → ⊥) → (p ≡ 76 → ⊥) → eqb b p ≡ fits_byte p b
  unfolding fits_byte
  fits_self n m = rw (ne_eqb p 48 n, ne_eqb p 76 m)

-- ---- the shape along the bytes

pub shape_length : (ps s : List ℕ) → shaped ps s ≡ true → length ps ≡ length s
unfolding shaped
shape_length [] [] e = refl
shape_length [] (b ∷ s) e = absurd (false≢true e)
shape_length (p ∷ ps) [] e = absurd (false≢true e)
shape_length (p ∷ ps) (b ∷ s) e = ap suc (shape_length ps s (and_parts (fits_byte p b) (shaped ps s) e).1)

pub shape_differs : (ps s : List ℕ) → (length ps ≡ length s → ⊥) → false ≡ shaped ps s
shape_differs ps s n = by_test (shaped ps s) (λ e. absurd (n (shape_length ps s e))) sym

-- each byte of one as the byte beside it asks: what a chain over the two side by side goes by
pub shape_zip : (ps s : List ℕ) → length ps ≡ length s → list_all (λ q. fits_byte q.0 q.1) (zip ps s) ≡ shaped ps s
unfolding shaped
shape_zip [] [] e = refl
shape_zip [] (b ∷ s) e = absurd (omega arith)
shape_zip (p ∷ ps) [] e = absurd (omega arith)
shape_zip (p ∷ ps) (b ∷ s) e = ap (λ (x : Bool). fits_byte p b && x) (shape_zip ps s (omega arith))

pub shape_drop : (a : ℕ) (ps s : List ℕ) → shaped ps s ≡ true → shaped (drop a ps) (drop a s) ≡ true
unfolding shaped
shape_drop zero ps s e = e
shape_drop (suc a) [] [] e = refl
shape_drop (suc a) [] (b ∷ s) e = absurd (false≢true e)
shape_drop (suc a) (p ∷ ps) [] e = absurd (false≢true e)
shape_drop (suc a) (p ∷ ps) (b ∷ s) e = shape_drop a ps s (and_parts (fits_byte p b) (shaped ps s) e).1

-- the first n bytes of a shape stand for digits: a test that computes
abbrev pub zeros : ℕ → List ℕ → Bool
zeros zero ps = true
zeros (suc n) [] = false
zeros (suc n) (p ∷ ps) = eqb p 48 && zeros n ps

shape_digits : (n : ℕ) (ps s : List ℕ) → shaped ps s ≡ true → zeros n ps ≡ true → all is_digit (take n s) ≡ true
unfolding shaped all
shape_digits zero ps s e z = refl
shape_digits (suc n) [] s e z = absurd (false≢true z)
shape_digits (suc n) (p ∷ ps) [] e z = absurd (false≢true e)
shape_digits (suc n) (p ∷ ps) (b ∷ s) e z =
    let q = and_parts (fits_byte p b) (shaped ps s) e in
    let y = and_parts (eqb p 48) (zeros n ps) z in
    let d : is_digit b ≡ true = fits_digit p b (eqb-true p 48 y.0) ∙ q.0 in
    rw (d, shape_digits n ps s q.1 y.1)

-- what a date's shape gives at a place where n digits stand: room, and the digits
pub shape_asks : (s : List ℕ) (at n : ℕ) → shaped date_shape s ≡ true → at + n ≤ 21 → zeros n (drop at date_shape) ≡ true
    → (at + n ≤ length s) × (all is_digit (take n (drop at s)) ≡ true)
shape_asks s at n e l z =
    (omega (arith, shape_length date_shape s e), shape_digits n (drop at date_shape) (drop at s) (shape_drop at date_shape s e) z)

-- ---- a field

-- n digits at a place, read, are the field there, and below the n-th power of ten; they are not refused
module _ (s : List ℕ) (at n : ℕ) (d : Option ℕ) (e : d ≡ digits_of n (take (at + n - at) (drop at s))) (h : 1 ≤ n) (k : at + n ≤ length s) (a : all is_digit (take n (drop at s)) ≡ true) where
  field_is : d ≡ Some (field_at s at n)
  field_is =
      let l : length (take n (drop at s)) ≡ n = length-take-le n (drop at s) (omega (arith, length-drop at s)) in
      (rw (add-sub_cancel_left at n) at e) ∙ sym (taken n (take n (drop at s)) (rw l h) (omega arith) a)

  pub field_read : (v : ℕ) → d ≡ Some v → (v ≡ field_at s at n) × (v < 10 ^ n)
  field_read v r = (same_value v (field_at s at n) (sym r ∙ field_is), below n (take (at + n - at) (drop at s)) v (sym e ∙ r))
    where
      same_value : (v w : ℕ) → Some v ≡ Some w → v ≡ w
      same_value v w p = cc

  pub field_refused : d ≡ None → ⊥
  field_refused r = never (field_at s at n) (sym r ∙ field_is)
    where
      never : (w : ℕ) → None ≡ Some w → ⊥
      never w p = let z : ◌≡◌ {A = ℕ} 0 1 = cc in absurd (omega arith)

-- ---- the calendar

module _ (y m : ℕ) where
  pub february_long : m ≡ 2 → y % 4 ≡ 0 → 29 ≡ days_in y m
  unfolding days_in leap
  february_long e l = rw (e, eq-eqb (y % 4) 0 l)

  pub february : m ≡ 2 → (y % 4 ≡ 0 → ⊥) → 28 ≡ days_in y m
  unfolding days_in leap
  february e l = rw (e, ne_eqb (y % 4) 0 l)

  pub thirty : (m ≡ 4) ⊎ ((m ≡ 6) ⊎ ((m ≡ 9) ⊎ (m ≡ 11))) → 30 ≡ days_in y m
  unfolding days_in
  thirty (inl e) = rw e
  thirty (inr (inl e)) = rw e
  thirty (inr (inr (inl e))) = rw e
  thirty (inr (inr (inr e))) = rw e

  pub thirty_one : (m ≡ 2 → ⊥) → ((m ≡ 4) ⊎ ((m ≡ 6) ⊎ ((m ≡ 9) ⊎ (m ≡ 11))) → ⊥) → 31 ≡ days_in y m
  unfolding days_in
  thirty_one n o =
      rw (
        ne_eqb m 2 n,
        ne_eqb m 4 (λ e. o (inl e)),
        ne_eqb m 6 (λ e. o (inr (inl e))),
        ne_eqb m 9 (λ e. o (inr (inr (inl e)))),
        ne_eqb m 11 (λ e. o (inr (inr (inr e)))),
      )

pub days_low : (y m : ℕ) → days_in y m ≤ 31
unfolding days_in
days_low y m = cond_le (eqb m 2) (cond_le (leap y) (lit≤ tt) (lit≤ tt)) (cond_le (eqb m 4 || eqb m 6 || eqb m 9 || eqb m 11) (lit≤ tt) (lit≤ tt))

pub days_more : (y m : ℕ) → days_of y (m + 1) ≡ days_of y m + days_in y (m + 1)
unfolding days_of
days_more y m = rw add-one

pub days_upto : (y m : ℕ) → days_of y m ≤ 31 * m
unfolding days_of
days_upto y zero = lit≤ tt
days_upto y (suc m) = omega (arith, days_upto y m, days_low y (suc m))

-- a month past the twelfth has 31 days
past_twelve : (y m : ℕ) → 12 < m → 31 ≡ days_in y m
past_twelve y m h = thirty_one y m (λ e. omega arith) not_thirty
  where
    not_thirty : (m ≡ 4) ⊎ ((m ≡ 6) ⊎ ((m ≡ 9) ⊎ (m ≡ 11))) → ⊥
    not_thirty (inl e) = omega arith
    not_thirty (inr (inl e)) = omega arith
    not_thirty (inr (inr (inl e))) = omega arith
    not_thirty (inr (inr (inr e))) = omega arith

pub days_after : (y m : ℕ) → 12 ≤ m → days_of y 12 + 31 * (m - 12) ≡ days_of y m
unfolding days_of
days_after y zero h = absurd (omega arith)
days_after y (suc m) h =
    by_le 12 m (λ k. omega (arith, days_after y m k, past_twelve y (suc m) (omega arith)))
    (λ k. let e : suc m ≡ 12 = omega arith in omega (arith, ap (days_of y) e))

-- what each step of the sum takes fits
pub days_fit : (m : ℕ) → 12 ≤ m → m < 256 → (31 * (m - 12) < limit) × (365 + 31 * (m - 12) < limit)
days_fit m h k = (omega arith, omega arith)

-- a leap year has one day more than 2001, from its second month on
module _ (y : ℕ) where
  common : eqb (y % 4) 0 ≡ false → (m : ℕ) → days_of y m ≡ days_of 2001 m
  unfolding days_of days_in leap
  common n zero = refl
  common n (suc m) = rw (common n m, n)

  early : (m : ℕ) → m < 2 → days_of y m ≡ days_of 2001 m
  unfolding days_of days_in
  early zero h = refl
  early (suc zero) h = refl
  early (suc (suc m)) h = absurd (omega arith)

  no_february : (m : ℕ) → 2 < m → days_in y m ≡ days_in 2001 m
  unfolding days_in
  no_february m h = rw (ne_eqb m 2 (λ e. omega arith))

  late : eqb (y % 4) 0 ≡ true → (m : ℕ) → 2 ≤ m → days_of y m ≡ days_of 2001 m + 1
  unfolding days_of days_in leap
  late l zero h = absurd (omega arith)
  late l (suc m) h =
      by_le 2 m (λ k. omega (arith, late l m k, no_february (suc m) (omega arith)))
      (λ k. let e : m ≡ 1 = omega arith in rw (e, l))

  pub leap_more : (m : ℕ) → (leb 2 m && eqb (y % 4) 0) ≡ true → days_of y m ≡ days_of 2001 m + 1
  leap_more m t =
      let w = and_parts (leb 2 m) (eqb (y % 4) 0) t in
      late w.1 m (leb-true 2 m w.0)

  pub no_leap : (m : ℕ) → (leb 2 m && eqb (y % 4) 0) ≡ false → days_of y m ≡ days_of 2001 m + 0
  no_leap m t =
      by_le 2 m (λ h. let n : eqb (y % 4) 0 ≡ false = rw (le-leb 2 m h) at t in omega (arith, common n m))
      (λ h. omega (arith, early m h))

-- the days of a common year and the leap year's day, and at most 31 a month
pub days_sum : (y m a b : ℕ) → a ≡ days_of 2001 m → days_of y m ≡ days_of 2001 m + b → (a + b ≡ days_of y m) × (a + b ≤ 31 * m)
days_sum y m a b e d = (omega arith, omega (arith, days_upto y m))

-- how far a clock is ahead of UTC: one hour or two
pub ahead_low : (z : Bool) → hours_ahead z ≤ 7200
ahead_low true = lit≤ tt
ahead_low false = lit≤ tt

pub ahead_least : (z : Bool) → 3600 ≤ hours_ahead z
ahead_least true = lit≤ tt
ahead_least false = lit≤ tt

-- the test of a date, and its bounds
pub real_tells : (d : Date) → Tells (is_real d) (Real d)
unfolding is_real
real_tells d =
    let b =
    within_tells 2001 2099 d.year
    and within_tells 1 12 d.month
    and within_tells 1 (days_in d.year d.month) d.day
    and leb_tells d.hour 23
    and leb_tells d.minute 59
    and leb_tells d.second 59
    in
    (λ e. let h = b.0 e in omega arith, λ r. b.1 (omega arith))

-- ---- the whole

module _ (s : List ℕ) where
  pub date_misshapen : shaped date_shape s ≡ false → None ≡ date_of s
  unfolding date_of
  date_misshapen e = rw e

  pub date_unreal : shaped date_shape s ≡ true → is_real (date_parts s) ≡ false → None ≡ date_of s
  unfolding date_of
  date_unreal e r = rw (e, r)

  pub date_is : shaped date_shape s ≡ true → is_real (date_parts s) ≡ true → Some (date_parts s) ≡ date_of s
  unfolding date_of
  date_is e r = rw (e, r)

-- ---- lengths of what is written

day_length : (d : Date) → length (day_text d) ≡ 10
unfolding day_text digits_text
day_length d = refl

time_length : (d : Date) → length (time_text d) ≡ 9
unfolding time_text digits_text
time_length d = refl

letter_length : (z : Bool) → length (letter_text z) ≡ 2
unfolding letter_text
letter_length z = refl

-- ---- puts: what each part leaves, as its contract says, and then the whole

-- a mark, then digits
pub mark_put : (l l₁ l₂ : List ℕ) (at a b k n r : ℕ) → (a ≡ at + 1) × (l₁ ≡ sets l at (b ∷ [])) → (r ≡ a + k) × (l₂ ≡ sets l₁ a (digits_text k n))
    → (r ≡ at + 1 + k) × (l₂ ≡ sets l at (b ∷ digits_text k n))
mark_put l l₁ l₂ at a b k n r p q =
    let x : Run l at (b ∷ []) a l₁ = puts p in
    let y : Run l₁ a (digits_text k n) r l₂ = puts_of k (length_text k n) q in
    (omega (arith, p.0, q.0), (then x y).bytes)

-- a blank, then a letter
pub letter_put : (l l₁ l₂ : List ℕ) (at a b r : ℕ) (z : Bool) → (a ≡ at + 1) × (l₁ ≡ sets l at (32 ∷ [])) → b ≡ letter z
    → (r ≡ a + 1) × (l₂ ≡ sets l₁ a (b ∷ []))
    → (r ≡ at + 2) × (l₂ ≡ sets l at (letter_text z))
unfolding letter_text
letter_put l l₁ l₂ at a b r z p e q =
    let x : Run l at (32 ∷ []) a l₁ = puts p in
    let y : Run l₁ a (b ∷ []) r l₂ = puts q in
    (omega (arith, p.0, q.0), (then x y).bytes ∙ ap (λ (c : ℕ). sets l at (32 ∷ c ∷ [])) e)

-- what `mark_put` gives, as a put
marked : (l m : List ℕ) (at b k n r : ℕ) → (r ≡ at + 1 + k) × (m ≡ sets l at (b ∷ digits_text k n)) → Run l at (b ∷ digits_text k n) r m
marked l m at b k n r p = record { place = omega (arith, p.0, length_text k n); bytes = p.1 }

-- three parts
module _ (l l₁ l₂ l₃ : List ℕ) (at a b r : ℕ) (d : Date) where
  pub day_put : (a ≡ at + 2) × (l₁ ≡ sets l at (digits_text 2 d.day)) → (b ≡ a + 1 + 2) × (l₂ ≡ sets l₁ a (45 ∷ digits_text 2 d.month))
      → (r ≡ b + 1 + 4) × (l₃ ≡ sets l₂ b (45 ∷ digits_text 4 d.year)) → (r ≡ at + 10) × (l₃ ≡ sets l at (day_text d))
  unfolding day_text
  day_put p q s =
      let x : Run l at (digits_text 2 d.day) a l₁ = puts_of 2 (length_text 2 d.day) p in
      let y = marked l₁ l₂ a 45 2 d.month b q in
      let z = marked l₂ l₃ b 45 4 d.year r s in
      (omega (arith, p.0, q.0, s.0), (then (then x y) z).bytes)

  pub time_put : (a ≡ at + 1 + 2) × (l₁ ≡ sets l at (32 ∷ digits_text 2 d.hour)) → (b ≡ a + 1 + 2) × (l₂ ≡ sets l₁ a (58 ∷ digits_text 2 d.minute))
      → (r ≡ b + 1 + 2) × (l₃ ≡ sets l₂ b (58 ∷ digits_text 2 d.second)) → (r ≡ at + 9) × (l₃ ≡ sets l at (time_text d))
  unfolding time_text
  time_put p q s =
      let x = marked l l₁ at 32 2 d.hour a p in
      let y = marked l₁ l₂ a 58 2 d.minute b q in
      let z = marked l₂ l₃ b 58 2 d.second r s in
      (omega (arith, p.0, q.0, s.0), (then (then x y) z).bytes)

  pub date_put : (a ≡ at + 10) × (l₁ ≡ sets l at (day_text d)) → (b ≡ a + 9) × (l₂ ≡ sets l₁ a (time_text d))
      → (r ≡ b + 2) × (l₃ ≡ sets l₂ b (letter_text d.legal))
      → (r ≡ at + 21) × (l₃ ≡ sets l at (date_text d))
  unfolding date_text
  date_put p q s =
      let x : Run l at (day_text d) a l₁ = puts_of 10 (day_length d) p in
      let y : Run l₁ a (time_text d) b l₂ = puts_of 9 (time_length d) q in
      let z : Run l₂ b (letter_text d.legal) r l₃ = puts_of 2 (letter_length d.legal) s in
      (omega (arith, p.0, q.0, s.0), (then (then x y) z).bytes)
