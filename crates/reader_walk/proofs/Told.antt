-- What the walk's answer tells of the file: the frame, the row, and of each list of labels the first repeat, what is missing, and the column of values.
-- Assumes nothing.
use Rattle.std.specs.Prelude.{None, Option, Some}
use Prim.Native.Nat.{ℕ, suc, ◌+◌, ◌-◌, ◌≤◌, ◌<◌}
use Rattle.reader_accent.specs.Accents.{accents_of}
use Rattle.reader_line.specs.Items.{first_labels, second_labels}
use Rattle.text_lines.proofs.Bits.{seen_missing}
use Rattle.text_lines.proofs.Spots.{field_holds, text_row_in}
use Rattle.text_lines.specs.Entries.{Entry, entry_of, entries, place_of, stands, again, missing, standing, value_at, column}
use Rattle.text_lines.specs.Lines.{Param, params, inside, outside, framed, seps, texts, allowed_upto}
use Rattle.text_lines.specs.Mask.{mask_of}
use Rattle.text_lines.specs.Places.{Placed, no_span, part_of, span_at, column_in, HoldsText}
use Rattle.text_lines.specs.Spellings.{Spelling}
use Rattle.text_lines.specs.Spots.{lines_in, spots, place_at, places_from, places_in}
use Rattle.text_lines.specs.declared.Span.{Span}
use Rattle.value_name.specs.declared.MessageType.{MessageType}
use Rattle.text.proofs.Tests.{by_test, by_eq, and_parts}
use Rattle.text.specs.Lists.{sift}
use Rattle.reader_walk.proofs.Fields.{IsNumber}
use Rattle.reader_walk.proofs.Line.{first_few, second_few}
use Rattle.reader_walk.proofs.Walking.{from_length, place_next}
use Rattle.reader_walk.specs.State.{or_zero, marks_of, marks_in, whole_of, found_of}
use Rattle.reader_walk.specs.declared.Found.{Found}
use Rattle.reader_walk.specs.declared.Marks.{Marks}
use borrow.Author.Tests.{eqb-true, eqb-false, eq-eqb, ne_eqb}
use lib.Count.{ones}
use lib.Dec.{eqb}
use lib.ListN.{length, get_or, take, drop}
use lib.Seq.{drop-cons}
use mathlib.Core.Bool.{true, ◌&&◌}
use mathlib.Core.List.{List, [], ◌∷◌, map}
use mathlib.Core.Path.{◌≡◌, refl, sym, ap, ap₂, ◌∙◌, subst}
use native.Mathlib.Omega.{arith}

-- ---- of a list of labels with these entries: the labels seen as bits, the first repeat, and each value's place

pub record Fields (file : List ℕ) (ls : List (List ℕ)) (m : Marks) (spans : List Span) (es : List Entry) : Type 0 where
  pub long : length spans ≡ 27
  pub seen : m.seen ≡ mask_of (standing 1 ls es)
  pub repeat : IsNumber m.again (again [] es)
  pub value : (k : ℕ) → 1 ≤ k → k ≤ length ls → HoldsText file (span_at spans k) (value_at k es)

-- fields are numbered from 1
abbrev AllPositive : List Entry → Type 0
AllPositive [] = 0 ≤ 0
AllPositive (e ∷ es) = (1 ≤ e.at) × AllPositive es

positive : (ls : List (List ℕ)) (ps : List Param) → AllPositive (entries ls ps)
unfolding entries sift entry_of
positive ls [] = omega arith
positive ls (p ∷ ps) =
    by_test (eqb (place_of ls p.label) 0) (λ e. rw e (positive ls ps))
    (λ e. let n = eqb-false (place_of ls p.label) 0 e in rw e (omega (arith, n), positive ls ps))

number_there : (seen es : List Entry) → AllPositive es → IsNumber (or_zero (again seen es)) (again seen es)
unfolding again
number_there seen [] a = refl
number_there seen (e ∷ es) a = by_test (stands e.at seen) (λ t. rw t (refl, a.0)) (λ t. rw t (number_there (e ∷ seen) es a.1))

pub fields_in : (sp : List Spelling) (file : List ℕ) (ls : List (List ℕ)) → length ls ≤ 26
    → Fields file ls (marks_in sp ls file) (places_in sp ls file) (entries ls (params sp (outside (texts file))))
unfolding marks_of places_in
fields_in sp file ls few =
    let es = spots sp ls (lines_in file) in
    record {
      long = ap suc (from_length 26 1 es);
      seen = refl;
      repeat = number_there [] (entries ls (params sp (outside (texts file)))) (positive ls (params sp (outside (texts file))));
      value = λ k a b.
          let n : k ≡ suc (k - 1) = omega arith in
          let p : span_at (no_span ∷ places_from 26 1 es) k ≡ place_at k es =
          ap (λ (j : ℕ). span_at (no_span ∷ places_from 26 1 es) j) n ∙ place_next es (k - 1) (omega arith)
          ∙ ap (λ (j : ℕ). place_at j es) (sym n) in
          subst (λ (x : Span). HoldsText file x (value_at k (entries ls (params sp (outside (texts file)))))) (sym p) (field_holds sp file ls k);
    }

-- ---- of the whole file

module _ (t : MessageType) (file : List ℕ) (r : Found) (w : r ≡ found_of t file) where
  pub stop_by : r.stop ≡ allowed_upto (accents_of t) file
  unfolding found_of
  stop_by =
      ap (λ (x : Found). x.stop) w
      ∙ by_eq (allowed_upto (accents_of t) file) (length file) (λ e. rw (eq-eqb (allowed_upto (accents_of t) file) (length file) e) (sym e))
      (λ e. rw (ne_eqb (allowed_upto (accents_of t) file) (length file) e))

  module _ (all_allowed : allowed_upto (accents_of t) file ≡ length file) where
    pub whole_by : r ≡ whole_of t file
    unfolding found_of
    whole_by = w ∙ rw (eq-eqb (allowed_upto (accents_of t) file) (length file) all_allowed)

    pub seps_by : r.frame.seps ≡ seps (texts file)
    seps_by = ap (λ (x : Found). x.frame.seps) whole_by

    inside_by : r.frame.inside ≡ length (inside (texts file))
    inside_by = ap (λ (x : Found). x.frame.inside) whole_by

    pub framed_by : framed (texts file) ≡ (eqb r.frame.seps 2 && eqb r.frame.inside 1)
    unfolding framed
    framed_by = ap₂ (λ (a b : ℕ). eqb a 2 && eqb b 1) (sym seps_by) (sym inside_by)

    pub row_by : framed (texts file) ≡ true → HoldsText file r.frame.row (get_or (inside (texts file)) 0 [])
    row_by h =
        let one = eqb-true r.frame.inside 1 (and_parts (eqb r.frame.seps 2) (eqb r.frame.inside 1) (sym framed_by ∙ h)).1 in
        subst (λ (p : Span). HoldsText file p (get_or (inside (texts file)) 0 [])) (sym (ap (λ (x : Found). x.frame.row) whole_by))
        (text_row_in file (λ z. omega (arith, one, inside_by, z)))

    pub first_by : Fields file (first_labels t) r.first r.places (entries (first_labels t) (params (accents_of t) (outside (texts file))))
    first_by = rw whole_by (fields_in (accents_of t) file (first_labels t) (first_few t))

    pub second_by : Fields file (second_labels t) r.second r.others (entries (second_labels t) (params (accents_of t) (outside (texts file))))
    second_by = rw whole_by (fields_in (accents_of t) file (second_labels t) (second_few t))

-- ---- of a layout

number_none : (n : ℕ) (o : Option ℕ) → IsNumber n o → n ≡ 0 → o ≡ None
number_none n None h e = refl
number_none n (Some k) h e = absurd (omega (arith, e, h.0, h.1))

number_some : (n : ℕ) (o : Option ℕ) → IsNumber n o → (n ≡ 0 → ⊥) → o ≡ Some n
number_some n None h e = absurd (e h)
number_some n (Some k) h e = ap Some (sym h.0)

-- the texts at the places of the fields from k on
column_from : (file : List ℕ) (spans : List Span) (es : List Entry) (k : ℕ) (ls : List (List ℕ)) → k + length ls ≤ length spans
    → ((j : ℕ) → k ≤ j → j < k + length ls → part_of file (span_at spans j) ≡ value_at j es)
    → map (part_of file) (take (length ls) (drop k spans)) ≡ column k ls es
unfolding column
column_from file spans es k [] h v = refl
column_from file spans es k (l ∷ ls) h v =
    rw (drop-cons spans k no_span (omega (arith, h)))
    (ap₂ (λ (x : List ℕ) (xs : List (List ℕ)). x ∷ xs) (v k (omega arith) (omega arith))
    (column_from file spans es (suc k) ls (omega (arith, h)) (λ j a b. v j (omega arith) (omega (arith, b)))))

module _ (file : List ℕ) (ls : List (List ℕ)) (m : Marks) (spans : List Span) (es : List Entry) (f : Fields file ls m spans es) where
  pub repeat_none : m.again ≡ 0 → again [] es ≡ None
  repeat_none e = number_none m.again (again [] es) f.repeat e

  pub repeat_some : (m.again ≡ 0 → ⊥) → again [] es ≡ Some m.again
  repeat_some e = number_some m.again (again [] es) f.repeat e

  pub seen_le : ones m.seen ≤ length ls
  seen_le = omega (arith, seen_missing ls es, ap ones f.seen)

  pub missing_by : length ls - ones m.seen ≡ missing 1 ls es
  missing_by = omega (arith, seen_missing ls es, ap ones f.seen)

  pub placed_by : Placed (length ls) file spans
  placed_by = record { long = f.long; ordered = λ k a b. (f.value k a b).ordered; inside = λ k a b. (f.value k a b).inside }

  pub column_by : length ls ≤ 26 → column_in (length ls) file spans ≡ column 1 ls es
  unfolding column_in
  column_by h = column_from file spans es 1 ls (omega (arith, f.long)) (λ j a b. (f.value j a (omega arith)).holds)
