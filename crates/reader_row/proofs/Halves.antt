-- The two half-bands of SR: the value cut at its first `;`, by places. Assumes nothing.
use Rattle.std.specs.Prelude.{None, Option, Some}
use Prim.Native.Nat.{ℕ, ◌+◌, ◌-◌, ◌≤◌}
use Rattle.layout.specs.Rows.{tail_text}
use Rattle.text_lines.specs.Places.{HoldsText, part_of}
use Rattle.text_lines.specs.declared.Span.{Span}
use Rattle.reader_row.proofs.Joins.{step_fits, step_on, step_stop}
use Rattle.reader_row.specs.Steps.{step_of}
use Rattle.text.proofs.Cuts.{part_from, part_front, length_part, upto_take, upto_length, past_drop}
use Rattle.text.specs.Bytes.{part, is, upto, past, first_of, skip, skip_end, trim}
use lib.ListN.{length, take, drop_of_length-le}
use mathlib.Core.List.{List, [], ◌∷◌, ◌++◌, append-nil}
use mathlib.Core.Path.{◌≡◌, sym, ap, ◌∙◌}
use native.Mathlib.Omega.{arith}

two_texts : (x y : List ℕ) → tail_text (x ∷ y ∷ []) ≡ (59 ∷ x) ++ (59 ∷ y)
unfolding tail_text
two_texts x y = ap (λ (t : List ℕ). (59 ∷ x) ++ t) (append-nil (59 ∷ y))

-- the part that the code takes where there is no `;`
empty_part : (s : List ℕ) (a : ℕ) → part a a s ≡ trim []
unfolding skip skip_end trim
empty_part s a = let n : a - a ≡ 0 = omega arith in rw n

module _ (file : List ℕ) (from to n : ℕ) (h : from ≤ to) (l : to ≤ length file) (t : List ℕ) (text : t ≡ part from to file) (c : n ≡ first_of 59 t) where
  abbrev value : List ℕ
  value = part from to file

  cut_is : n ≡ first_of 59 value
  cut_is = c ∙ ap (first_of 59) text

  pub cut_fits : from + n ≤ to
  cut_fits = omega (arith, cut_is, upto_length (is 59) value, length_part from to file l)

  before_mark : part from (from + n) file ≡ upto (is 59) value
  before_mark =
      sym (part_front file from to n cut_fits) ∙ ap (λ (k : ℕ). take k value) cut_is ∙ sym (upto_take (is 59) value)

  after_mark : part (from + n + 1) to file ≡ past (is 59) value
  after_mark =
      let k : from + n + 1 ≡ from + (first_of 59 value + 1) = omega (arith, cut_is) in
      ap (λ (a : ℕ). part a to file) k ∙ sym (part_from file from to (first_of 59 value + 1)) ∙ sym (past_drop (is 59) value)

  -- no `;`
  none_after : from + n ≡ to → [] ≡ past (is 59) value
  none_after e =
      let k : length value ≤ first_of 59 value + 1 = omega (arith, cut_is, length_part from to file l) in
      sym (past_drop (is 59) value ∙ drop_of_length-le value k)

  module _ (at end : ℕ) (a : at ≤ end) (b : end ≤ length file) (q : Span) (w : HoldsText file q (trim (part from (from + n) file))) (r : Option ℕ)
      (e : r ≡ step_of file at end (59 ∷ part_of file q)) where
    both : tail_text (trim (upto (is 59) value) ∷ trim (past (is 59) value) ∷ []) ≡ (59 ∷ part_of file q) ++ (59 ∷ trim (past (is 59) value))
    both =
        two_texts (trim (upto (is 59) value)) (trim (past (is 59) value))
        ∙ ap (λ (t : List ℕ). (59 ∷ t) ++ (59 ∷ trim (past (is 59) value))) (ap trim (sym before_mark) ∙ sym w.holds)

    pub half_fits : (m : ℕ) → r ≡ Some m → m ≤ end
    half_fits m g = step_fits file at end (59 ∷ part_of file q) r e a b m g

    pub half_no : r ≡ None → None ≡ step_of file at end (tail_text (trim (upto (is 59) value) ∷ trim (past (is 59) value) ∷ []))
    half_no g = step_stop file at end (59 ∷ part_of file q) r e (59 ∷ trim (past (is 59) value)) g ∙ ap (step_of file at end) (sym both)

    module _ (m : ℕ) (g : r ≡ Some m) (s : Option ℕ) where
      half_on : step_of file m end (59 ∷ trim (past (is 59) value)) ≡ step_of file at end (tail_text (trim (upto (is 59) value) ∷ trim (past (is 59) value) ∷ []))
      half_on = step_on file at end (59 ∷ part_of file q) r e (59 ∷ trim (past (is 59) value)) m g ∙ ap (step_of file at end) (sym both)

      pub both_on : (q' : Span) → HoldsText file q' (trim (part (from + n + 1) to file)) → s ≡ step_of file m end (59 ∷ part_of file q')
          → s ≡ step_of file at end (tail_text (trim (upto (is 59) value) ∷ trim (past (is 59) value) ∷ []))
      both_on q' v f = f ∙ ap (λ (t : List ℕ). step_of file m end (59 ∷ t)) (v.holds ∙ ap trim after_mark) ∙ half_on

      pub one_on : from + n ≡ to → s ≡ step_of file m end (59 ∷ part to to file)
          → s ≡ step_of file at end (tail_text (trim (upto (is 59) value) ∷ trim (past (is 59) value) ∷ []))
      one_on k f = f ∙ ap (λ (t : List ℕ). step_of file m end (59 ∷ t)) (empty_part file to ∙ ap trim (none_after k)) ∙ half_on
