-- A text that is read as a date is the date's own text: its fields are digits, and all else is the shape's. Assumes nothing.
use Rattle.std.specs.Prelude.{Some}
use Prim.Native.Nat.{ℕ, ◌+◌, ◌≤◌}
use Rattle.value_date.proofs.Back.{date_tells}
use Rattle.value_date.proofs.Laws.{shape_drop, shape_asks, zeros}
use Rattle.value_date.specs.Date.{fits_byte, shaped, date_shape, field_at, date_parts, date_of, day_text, time_text, letter, letter_text, date_text}
use Rattle.value_date.specs.declared.Date.{Date}
use Rattle.text.proofs.Backs.{digits_back}
use Rattle.text.proofs.Tests.{and_parts, by_test}
use Rattle.text.specs.Digits.{digits_text}
use borrow.Author.Tests.{eqb-true}
use lib.Dec.{eqb}
use lib.ListN.{length, get_or, take, drop, length-drop, take-append-drop}
use lib.Seq.{length-take-le, drop-drop, get_or-drop}
use mathlib.Core.Bool.{true, false, false≢true}
use mathlib.Core.List.{List, [], ◌∷◌, ◌++◌, append_assoc}
use mathlib.Core.Path.{◌≡◌, refl, sym, ap, ap₂, ◌∙◌}
use native.Mathlib.Omega.{arith}

-- ---- the first byte of a text, by the shape's

-- a byte that stands for itself
mark_first : (p : ℕ) (ps t : List ℕ) → eqb p 48 ≡ false → eqb p 76 ≡ false → shaped (p ∷ ps) t ≡ true → p ∷ drop 1 t ≡ t
unfolding shaped fits_byte
mark_first p ps [] n m e = absurd (false≢true e)
mark_first p ps (b ∷ t) n m e =
    let q = (and_parts (fits_byte p b) (shaped ps t) e).0 in
    ap (λ (x : ℕ). x ∷ t) (sym (eqb-true b p (rw (n, m) at q)))

-- L (76) or S (83)
letter_first : (t : List ℕ) → shaped (76 ∷ []) t ≡ true → letter (eqb (get_or t 0 0) 76) ∷ [] ≡ t
unfolding shaped fits_byte
letter_first [] e = absurd (false≢true e)
letter_first (b ∷ c ∷ t) e = absurd (false≢true (and_parts (fits_byte 76 b) false e).1)
letter_first (b ∷ []) e =
    let q = (and_parts (fits_byte 76 b) true e).0 in
    ap (λ (x : ℕ). x ∷ [])
    (by_test (eqb b 76) (λ y. rw y (sym (eqb-true b 76 y))) (λ n. let f : eqb b 83 ≡ true = rw n at q in rw n (sym (eqb-true b 83 f))))

-- ---- a text of the shape, from each place on

module _ (s : List ℕ) (e : shaped date_shape s ≡ true) where
  digits_own : (at n : ℕ) → at + n ≤ 21 → zeros n (drop at date_shape) ≡ true → digits_text n (field_at s at n) ++ drop (at + n) s ≡ drop at s
  digits_own at n h z =
      let a = shape_asks s at n e h z in
      let l : length (take n (drop at s)) ≡ n = length-take-le n (drop at s) (omega (arith, length-drop at s)) in
      ap₂ (λ (x y : List ℕ). x ++ y)
      (ap (λ (k : ℕ). digits_text k (field_at s at n)) (sym l) ∙ digits_back (take n (drop at s)) a.1)
      (sym (drop-drop n at s))
      ∙ take-append-drop n (drop at s)

  mark_own : (at p : ℕ) (ps : List ℕ) → drop at date_shape ≡ p ∷ ps → eqb p 48 ≡ false → eqb p 76 ≡ false → p ∷ drop (at + 1) s ≡ drop at s
  mark_own at p ps f n m =
      ap (λ (t : List ℕ). p ∷ t) (sym (drop-drop 1 at s)) ∙ mark_first p ps (drop at s) n m (rw f at (shape_drop at date_shape s e))

  -- a mark, then digits
  marked_own : (at n p : ℕ) (ps : List ℕ) → drop at date_shape ≡ p ∷ ps → eqb p 48 ≡ false → eqb p 76 ≡ false → at + 1 + n ≤ 21
      → zeros n (drop (at + 1) date_shape) ≡ true → (p ∷ digits_text n (field_at s (at + 1) n)) ++ drop (at + 1 + n) s ≡ drop at s
  marked_own at n p ps f x y h z = ap (λ (t : List ℕ). p ∷ t) (digits_own (at + 1) n h z) ∙ mark_own at p ps f x y

  day_own : day_text (date_parts s) ++ drop 10 s ≡ s
  unfolding day_text date_parts digits_text
  day_own =
      let day : List ℕ = digits_text 2 (field_at s 0 2) in
      let month : List ℕ = 45 ∷ digits_text 2 (field_at s 3 2) in
      ap (λ (t : List ℕ). day ++ month ++ t) (marked_own 5 4 45 _ refl refl refl (omega arith) refl)
      ∙ ap (λ (t : List ℕ). day ++ t) (marked_own 2 2 45 _ refl refl refl (omega arith) refl)
      ∙ digits_own 0 2 (omega arith) refl

  time_own : time_text (date_parts s) ++ drop 19 s ≡ drop 10 s
  unfolding time_text date_parts digits_text
  time_own =
      let hour : List ℕ = 32 ∷ digits_text 2 (field_at s 11 2) in
      let minute : List ℕ = 58 ∷ digits_text 2 (field_at s 14 2) in
      ap (λ (t : List ℕ). hour ++ minute ++ t) (marked_own 16 2 58 _ refl refl refl (omega arith) refl)
      ∙ ap (λ (t : List ℕ). hour ++ t) (marked_own 13 2 58 _ refl refl refl (omega arith) refl)
      ∙ marked_own 10 2 32 _ refl refl refl (omega arith) refl

  letter_own : letter_text (date_parts s).legal ≡ drop 19 s
  unfolding letter_text date_parts
  letter_own =
      let last = letter_first (drop 20 s) (shape_drop 20 date_shape s e) in
      let byte = get_or-drop 20 s 0 0 in
      ap (λ (b : ℕ). 32 ∷ letter (eqb b 76) ∷ []) (sym byte) ∙ ap (λ (t : List ℕ). 32 ∷ t) last ∙ mark_own 19 32 _ refl refl refl

  fields_own : date_text (date_parts s) ≡ s
  unfolding date_text
  fields_own =
      ap (λ (t : List ℕ). day_text (date_parts s) ++ time_text (date_parts s) ++ t) letter_own
      ∙ append_assoc (day_text (date_parts s)) (time_text (date_parts s)) (drop 19 s)
      ∙ ap (λ (t : List ℕ). day_text (date_parts s) ++ t) time_own
      ∙ day_own

pub date_own : (s : List ℕ) (d : Date) → date_of s ≡ Some d → date_text d ≡ s
date_own s d e = let y = date_tells s d e in ap date_text (sym y.1.1) ∙ fields_own s y.0
