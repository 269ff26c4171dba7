-- The fields of a row, compared one by one with the places of their values, and what stands after them. Assumes nothing.
use Rattle.std.specs.Prelude.{None, Option, Some}
use Prim.Native.Nat.{ℕ, zero, suc, ◌+◌, ◌≤◌, ◌<◌}
use Rattle.layout.proofs.Labels.{few}
use Rattle.layout.proofs.Rows.{first_field, row_some, no_bands, row_fields_lem, row_cut}
use Rattle.layout.specs.Fields.{command, technical, sr}
use Rattle.layout.specs.Layouts.{fields_of, size_of}
use Rattle.layout.specs.Rows.{row_fields, text_at, halves, bands_in, tail_text, row_text, row_of}
use Rattle.layout.specs.declared.Layout.TheVariants.{Secondary}
use Rattle.layout.specs.declared.Layout.{Layout}
use Rattle.text_lines.proofs.Columns.{column_at_lem}
use Rattle.text_lines.specs.Places.{Placed, part_of, span_at, column_in}
use Rattle.text_lines.specs.declared.Span.{Span}
use Rattle.reader_row.proofs.Joins.{step_none, step_fits, step_on, step_stop, step_last, step_other}
use Rattle.reader_row.specs.Steps.{step_of}
use Rattle.text.specs.Bytes.{part, same}
use borrow.Author.Tests.{leb-true}
use lib.Dec.{eqb, lit≤}
use lib.ListN.{length, get_or, drop, drop_of_length-le, length-map}
use mathlib.Core.Bool.{false}
use mathlib.Core.List.{List, [], ◌∷◌, ◌++◌, map}
use mathlib.Core.Path.{◌≡◌, refl, sym, ap, ◌∙◌}
use native.Mathlib.Numerals.{add-one}
use native.Mathlib.Omega.{arith}

-- ---- the texts of a row's fields

map_step : {A B : Type 0} (f : A → B) (l : List A) (i : ℕ) (d : A) → i < length l → drop i (map f l) ≡ f (get_or l i d) ∷ drop (suc i) (map f l)
map_step f [] i d h = absurd (omega arith)
map_step f (x ∷ l) zero d h = refl
map_step f (x ∷ l) (suc i) d h = map_step f l i d (omega arith)

abbrev pub texts : Layout → List ℕ → List Span → List (List ℕ)
texts l file spans = map (text_at (column_in (size_of l) file spans)) (row_fields l)

module _ (l : Layout) (file : List ℕ) (spans : List Span) (p : Placed (size_of l) file spans) where
  pub text_at_lem : (k : ℕ) → 1 ≤ k → k ≤ size_of l → text_at (column_in (size_of l) file spans) k ≡ part_of file (span_at spans k)
  text_at_lem k a b = column_at_lem (size_of l) k file spans a b (omega (arith, few l, p.long))

  texts_step : (i k : ℕ) → i < length (row_fields l) → k ≡ get_or (row_fields l) i 0
      → drop i (texts l file spans) ≡ part_of file (span_at spans k) ∷ drop (i + 1) (texts l file spans)
  texts_step i k h e =
      let w = row_fields_lem l i h in
      rw (add-one, e)
      (map_step (text_at (column_in (size_of l) file spans)) (row_fields l) i 0 h
      ∙ ap (λ (t : List ℕ). t ∷ drop (suc i) (texts l file spans)) (text_at_lem (get_or (row_fields l) i 0) w.0 w.1))

-- ---- the loop

-- what is compared already, and what is left
pub record Rest (l : Layout) (file : List ℕ) (at end : ℕ) (spans : List Span) (n p i : ℕ) : Type 0 where
  pub placed : Placed (size_of l) file spans
  pub inside : end ≤ length file
  pub size : n ≡ length (row_fields l)
  pub near : p ≤ end
  pub rest : step_of file at end (row_text (texts l file spans)) ≡ step_of file p end (tail_text (drop i (texts l file spans)))

module _ (l : Layout) (file : List ℕ) (at end : ℕ) (spans : List Span) (a : at ≤ end) (b : end ≤ length file) (p : Placed (size_of l) file spans) (r : Option ℕ)
    (e : r ≡ step_of file at end (part_of file (span_at spans 1))) where
  head : row_text (texts l file spans) ≡ part_of file (span_at spans 1) ++ tail_text (drop 1 (texts l file spans))
  unfolding row_text
  head = ap row_text (texts_step l file spans p 0 1 (row_some l) (sym (first_field l)))

  pub first_on : (n : ℕ) → n ≡ length (row_fields l) → (q : ℕ) → r ≡ Some q → Rest l file at end spans n q 1
  first_on n s q w =
      record {
        placed = p;
        inside = b;
        size = s;
        near = step_fits file at end (part_of file (span_at spans 1)) r e a b q w;
        rest = ap (step_of file at end) head ∙ sym (step_on file at end (part_of file (span_at spans 1)) r e (tail_text (drop 1 (texts l file spans))) q w);
      }

  pub first_no : r ≡ None → None ≡ step_of file at end (row_text (texts l file spans))
  first_no w = step_stop file at end (part_of file (span_at spans 1)) r e (tail_text (drop 1 (texts l file spans))) w ∙ ap (step_of file at end) (sym head)

module _ (l : Layout) (file : List ℕ) (at end : ℕ) (spans : List Span) (n p i : ℕ) (s : Rest l file at end spans n p i) (h : i < n) (k : ℕ)
    (f : k ≡ get_or (row_fields l) i 0) where
  inside_row : i < length (row_fields l)
  inside_row = omega (arith, s.size)

  pub field_some : 1 ≤ k
  field_some = omega (arith, (row_fields_lem l i inside_row).0)

  pub field_in : k ≤ size_of l
  field_in = omega (arith, (row_fields_lem l i inside_row).1)

  pub field_few : k ≤ 26
  field_few = omega (arith, field_in, few l)

  module _ (r : Option ℕ) (e : r ≡ step_of file p end (59 ∷ part_of file (span_at spans k))) where
    next : tail_text (drop i (texts l file spans)) ≡ (59 ∷ part_of file (span_at spans k)) ++ tail_text (drop (i + 1) (texts l file spans))
    unfolding tail_text
    next = ap tail_text (texts_step l file spans s.placed i k inside_row f)

    pub later_on : (q : ℕ) → r ≡ Some q → Rest l file at end spans n q (i + 1)
    later_on q w =
        record {
          placed = s.placed;
          inside = s.inside;
          size = s.size;
          near = step_fits file p end (59 ∷ part_of file (span_at spans k)) r e s.near s.inside q w;
          rest =
              s.rest ∙ ap (step_of file p end) next
              ∙ sym (step_on file p end (59 ∷ part_of file (span_at spans k)) r e (tail_text (drop (i + 1) (texts l file spans))) q w);
        }

    pub later_no : r ≡ None → None ≡ step_of file at end (row_text (texts l file spans))
    later_no w =
        step_stop file p end (59 ∷ part_of file (span_at spans k)) r e (tail_text (drop (i + 1) (texts l file spans))) w
        ∙ ap (step_of file p end) (sym next)
        ∙ sym s.rest

pub all_on : (l : Layout) (file : List ℕ) (at end : ℕ) (spans : List Span) (n p i : ℕ) → Rest l file at end spans n p i → n ≤ i
    → Some p ≡ step_of file at end (row_text (texts l file spans))
unfolding tail_text
all_on l file at end spans n p i s h =
    let q : length (texts l file spans) ≤ i = omega (arith, s.size, length-map (row_fields l) (text_at (column_in (size_of l) file spans))) in
    step_none file p end ∙ ap (λ (ts : List (List ℕ)). step_of file p end (tail_text ts)) (sym (drop_of_length-le (texts l file spans) q)) ∙ sym s.rest

-- ---- the bands

pub plain_bands : (file : List ℕ) (at end : ℕ) (l : Layout) (col : List (List ℕ)) → (l ≡ Secondary → ⊥)
    → Some at ≡ step_of file at end (tail_text (bands_in l col))
unfolding tail_text
plain_bands file at end l col n =
    step_none file at end ∙ ap (λ (ts : List (List ℕ)). step_of file at end (tail_text ts)) (sym (no_bands l col n))

module _ (l : Layout) (file : List ℕ) (spans : List Span) (p : Placed (size_of l) file spans) (e : l ≡ Secondary) where
  pub six_fields : 6 ≤ size_of l
  unfolding fields_of command technical sr
  six_fields = rw e (leb-true 6 (size_of Secondary) refl)

  pub some_bands : (at end : ℕ) (r : Option ℕ) → r ≡ step_of file at end (tail_text (halves (part_of file (span_at spans 6))))
      → r ≡ step_of file at end (tail_text (bands_in l (column_in (size_of l) file spans)))
  some_bands at end r s =
      s
      ∙ ap (λ (t : List ℕ). step_of file at end (tail_text (halves t))) (sym (text_at_lem l file spans p 6 (lit≤ tt) six_fields))
      ∙ ap (λ (k : Layout). step_of file at end (tail_text (bands_in k (column_in (size_of l) file spans)))) (sym e)

-- ---- the fields, and then the bands

module _ (l : Layout) (file : List ℕ) (at end : ℕ) (col : List (List ℕ)) (a : at ≤ end) (b : end ≤ length file) (r : Option ℕ)
    (e : r ≡ step_of file at end (row_text (map (text_at col) (row_fields l)))) where
  abbrev fields : List ℕ
  fields = row_text (map (text_at col) (row_fields l))

  pub fields_fit : (q : ℕ) → r ≡ Some q → q ≤ end
  fields_fit q w = step_fits file at end fields r e a b q w

  pub fields_other : r ≡ None → false ≡ same (part at end file) (row_of l col)
  fields_other w =
      step_other file at end (row_of l col) None (step_stop file at end fields r e (tail_text (bands_in l col)) w ∙ ap (step_of file at end) (sym (row_cut l col))) refl

  module _ (q : ℕ) (w : r ≡ Some q) (r' : Option ℕ) (e' : r' ≡ step_of file q end (tail_text (bands_in l col))) where
    whole : r' ≡ step_of file at end (row_of l col)
    whole = e' ∙ step_on file at end fields r e (tail_text (bands_in l col)) q w ∙ ap (step_of file at end) (sym (row_cut l col))

    pub bands_other : r' ≡ None → false ≡ same (part at end file) (row_of l col)
    bands_other v = step_other file at end (row_of l col) r' whole v

    pub bands_last : (s : ℕ) → r' ≡ Some s → eqb s end ≡ same (part at end file) (row_of l col)
    bands_last s v = step_last file at end (row_of l col) r' whole a b s v
