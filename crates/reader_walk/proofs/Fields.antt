-- What the marks and the places of a list of labels say after one field's line more. Assumes nothing.
use Rattle.std.specs.Prelude.{None, Option, Some}
use Prim.Native.Nat.{ℕ, suc, ◌+◌, ◌-◌, ◌^◌, ◌≤◌, ◌<◌}
use Rattle.text_lines.proofs.Bits.{seen_bit, seen_less, seen_old, seen_new}
use Rattle.text_lines.proofs.Spots.{entry_at, entries_at, entries_more, place_old, place_new, place_other}
use Rattle.text_lines.proofs.Standing.{first, again_yes, again_no}
use Rattle.text_lines.specs.Entries.{Entry, stands, again, standing}
use Rattle.text_lines.specs.Mask.{bit, mask_of}
use Rattle.text_lines.specs.Places.{no_span, span_at}
use Rattle.text_lines.specs.Spots.{Spot, spot, spot_if, place_at}
use Rattle.text_lines.specs.declared.Span.{Span}
use Rattle.text.proofs.Tests.{by_test, by_eq}
use Rattle.text.specs.Lists.{onto}
use Rattle.reader_walk.specs.State.{has, noted_of, or_zero, marks_of}
use Rattle.reader_walk.specs.declared.Marks.{Marks}
use borrow.Author.Tests.{eq-eqb, ne_eqb}
use lib.Dec.{eqb}
use lib.ListN.{length, get_or, set, length-set}
use lib.Seq.{get_or-set_same, get_or-set_other}
use mathlib.Core.Bool.{Bool, true, false, cond}
use mathlib.Core.List.{List, [], ◌∷◌, ◌++◌, append-nil}
use mathlib.Core.Path.{◌≡◌, refl, sym, ap, ap₂, ◌∙◌, subst}
use native.Mathlib.Nat.{lt_of_lt_of_le, pow-le-pow_right}
use native.Mathlib.Omega.{arith}

-- ---- what is kept

-- the number of a field that is there, 0 where none is
abbrev pub IsNumber : ℕ → Option ℕ → Type 0
IsNumber n None = n ≡ 0
IsNumber n (Some k) = (n ≡ k) × (1 ≤ k)

-- of a list of labels, after the lines with these fields: the labels seen as bits, the first repeat, and each field's place
pub record Kept (file : List ℕ) (ls : List (List ℕ)) (m : Marks) (spans : List Span) (es : List Spot) : Type 0 where
  pub long : length spans ≡ 27
  pub seen : m.seen ≡ mask_of (standing 1 ls (entries_at file es))
  pub repeat : IsNumber m.again (again [] (entries_at file es))
  pub place : (k : ℕ) → 1 ≤ k → k ≤ 26 → span_at spans k ≡ place_at k es

-- the bit of a field is set where it has an entry
bit_test : (b : Bool) → eqb (bit b) 1 ≡ b
bit_test true = refl
bit_test false = refl

pub has_by : (ls : List (List ℕ)) (es : List Entry) (k seen : ℕ) → seen ≡ mask_of (standing 1 ls es) → 1 ≤ k → k ≤ length ls → has seen (k - 1) ≡ stands k es
has_by ls es k seen e a b =
    let j : k - 1 < length ls = omega arith in
    let n : suc (k - 1) ≡ k = omega arith in
    rw (e, seen_bit ls es (k - 1) j, n) (bit_test (stands k es))

module _ (file : List ℕ) (ls : List (List ℕ)) (m : Marks) (spans : List Span) (es : List Spot) (f : Kept file ls m spans es) where
  -- no bit past the last field
  pub seen_small : length ls ≤ 26 → m.seen < 67108864
  seen_small h =
      let two : 0 < 2 = omega arith in
      rw f.seen (lt_of_lt_of_le (seen_less ls (entries_at file es)) (pow-le-pow_right two h))

  number_is : (n : ℕ) (o : Option ℕ) → IsNumber n o → n ≡ or_zero o
  number_is n None e = e
  number_is n (Some k) e = e.0

  pub marks_are : m ≡ marks_of ls (entries_at file es)
  unfolding marks_of
  marks_are = ap₂ (λ (s a : ℕ). record { seen = s; again = a }) f.seen (number_is m.again (again [] (entries_at file es)) f.repeat)

-- the number of the first repeat, after a repeat of k
number_more : (n k : ℕ) (o : Option ℕ) → 1 ≤ k → IsNumber n o → IsNumber (cond (eqb n 0) k n) (first o (Some k))
number_more n k None h e = rw e (refl, h)
number_more n k (Some j) h e = rw (ne_eqb n 0 (λ z. omega (arith, z, e.0, e.1))) e

-- ---- one line more

module _ (file : List ℕ) (ls : List (List ℕ)) (m : Marks) (spans : List Span) (es : List Spot) (p : Span) (f : Kept file ls m spans es) where
  -- no field: what is kept at 0 is nobody's
  pub note_zero : (k : ℕ) → k ≡ 0 → Kept file ls (noted_of m k).marks (set spans (noted_of m k).into p) es
  unfolding noted_of
  note_zero k z =
      rw (eq-eqb k 0 z)
      record {
        long = length-set spans 0 p ∙ f.long;
        seen = f.seen;
        repeat = f.repeat;
        place = λ j a b. get_or-set_other spans 0 j p no_span (λ z. omega (arith, z, a)) ∙ f.place j a b;
      }

  module _ (k : ℕ) (some_field : 1 ≤ k) (inside : k ≤ length ls) where
    abbrev more : List Spot
    more = es ++ spot k p ∷ []

    abbrev above : List Entry
    above = entries_at file es

    abbrev e : Entry
    e = entry_at file (spot k p)

    -- a field that stood: its number is a repeat's
    note_old : stands k above ≡ true → Kept file ls (noted_of m k).marks (set spans (noted_of m k).into p) more
    unfolding noted_of
    note_old t =
        rw (ne_eqb k 0 (λ z. omega (arith, z, some_field)), has_by ls above k m.seen f.seen some_field inside, t)
        record {
          long = length-set spans 0 p ∙ f.long;
          seen = f.seen ∙ sym (ap (λ (x : List Entry). mask_of (standing 1 ls x)) (entries_more file es (spot k p)) ∙ seen_old ls above e t);
          repeat =
              subst (IsNumber (cond (eqb m.again 0) k m.again)) (sym (ap (again []) (entries_more file es (spot k p)) ∙ again_yes above e t))
              (number_more m.again k (again [] above) some_field f.repeat);
          place = λ j a b.
              get_or-set_other spans 0 j p no_span (λ z. omega (arith, z, a)) ∙ f.place j a b
              ∙ by_eq j k (λ c. sym (place_old file j es (spot k p) (ap (λ (i : ℕ). stands i above) c ∙ t)))
              (λ c. sym (place_other j es (spot k p) (ne_eqb j k c)));
        }

    -- a field that did not: its bit is set, and its place kept
    note_fresh : k ≤ 26 → stands k above ≡ false → Kept file ls (noted_of m k).marks (set spans (noted_of m k).into p) more
    unfolding noted_of
    note_fresh l t =
        let j : k - 1 < length ls = omega arith in
        let n : k ≡ suc (k - 1) = omega arith in
        rw (ne_eqb k 0 (λ z. omega (arith, z, some_field)), has_by ls above k m.seen f.seen some_field inside, t)
        record {
          long = length-set spans k p ∙ f.long;
          seen =
              ap (λ (s : ℕ). s + 2 ^ (k - 1)) f.seen
              ∙ sym (ap (λ (x : List Entry). mask_of (standing 1 ls x)) (entries_more file es (spot k p)) ∙ seen_new ls above e (k - 1) j n t);
          repeat = subst (IsNumber m.again) (sym (ap (again []) (entries_more file es (spot k p)) ∙ again_no above e t)) f.repeat;
          place = λ i a b.
              by_eq i k
              (λ c.
              ap (λ (x : ℕ). get_or (set spans k p) x no_span) c ∙ get_or-set_same spans k p no_span (omega (arith, l, f.long))
              ∙ sym (place_new file i es (spot k p) (ap (λ (x : ℕ). stands x above) c ∙ t) (eq-eqb i k c)))
              (λ c. get_or-set_other spans k i p no_span c ∙ f.place i a b ∙ sym (place_other i es (spot k p) (ne_eqb i k c)));
        }

  pub note_fields : (k : ℕ) → k ≤ length ls → length ls ≤ 26 → Kept file ls (noted_of m k).marks (set spans (noted_of m k).into p) (es ++ onto (spot_if k p) [])
  unfolding spot_if
  note_fields k h few =
      by_eq k 0 (λ z. rw (eq-eqb k 0 z, append-nil es) (note_zero k z))
      (λ z.
      let one : 1 ≤ k = omega arith in
      rw (ne_eqb k 0 z)
      (by_test (stands k (entries_at file es)) (λ t. note_old k one h t) (λ t. note_fresh k one h (omega arith) t)))
