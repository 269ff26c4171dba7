-- One line more of the walk: what its state says of the lines above, it says after it of one line more. Assumes nothing.
use Prim.Native.Nat.{ℕ, ◌+◌, ◌-◌, ◌≤◌}
use Rattle.layout.proofs.Labels.{few, labels_length}
use Rattle.layout.specs.Layouts.{layout_of}
use Rattle.layout.specs.declared.Layout.TheVariants.{Mfrr}
use Rattle.reader_accent.specs.Accents.{accents_of}
use Rattle.reader_line.specs.Items.{first_labels, second_labels, fielded, item_in}
use Rattle.reader_line.specs.declared.Item.{Item}
use Rattle.text_lines.proofs.Spots.{forget}
use Rattle.text_lines.proofs.Standing.{sift_snoc, inside_here, inside_not, place_le}
use Rattle.text_lines.specs.Lines.{if_inside, is_sep}
use Rattle.text_lines.specs.Places.{no_span, trimmed_at, value_span}
use Rattle.text_lines.specs.Spellings.{Spelling, respell}
use Rattle.text_lines.specs.Spots.{LineAt, line_at, line_if, row_span, field_in, spot_if, spot_in, spots}
use Rattle.text_lines.specs.declared.Span.{Span}
use Rattle.value_name.specs.declared.MessageType.{MessageType}
use Rattle.value_name.specs.declared.MessageType.TheVariants.{Cb, Rc, Mg, Eb, Lb, Sr, Vq, Ri, Qr}
use Rattle.text.proofs.Tests.{by_test, by_eq, and_parts}
use Rattle.text.specs.Bytes.{any, is, upto, trim}
use Rattle.text.specs.Lists.{onto, sift}
use Rattle.reader_walk.proofs.Fields.{Kept, note_zero, note_fields}
use Rattle.reader_walk.specs.State.{has, noted_of, frame_of}
use Rattle.reader_walk.specs.declared.Frame.{Frame}
use Rattle.reader_walk.specs.declared.Marks.{Marks}
use Rattle.reader_walk.specs.declared.Noted.{Noted}
use borrow.Author.Tests.{eq-eqb, ne_eqb, eqb-true}
use lib.Dec.{eqb}
use lib.ListN.{length, set, length-append}
use mathlib.Core.Bool.{Bool, true, false, ◌&&◌, cond}
use mathlib.Core.List.{List, [], ◌∷◌, ◌++◌, map, map-append, append-nil}
use mathlib.Core.Path.{◌≡◌, refl, sym, ap, ◌∙◌, subst}
use native.Mathlib.Omega.{arith}

-- ---- what a line more counts

pub frame_seps : (f : Frame) (separator : Bool) (p : Span) → (frame_of f separator p).seps ≡ f.seps + cond separator 1 0
unfolding frame_of
frame_seps f true p = refl
frame_seps f false p = by_test (eqb f.seps 1) (λ e. rw e (omega arith)) (λ e. rw e (omega arith))

pub frame_inside : (f : Frame) (separator : Bool) (p : Span) → (frame_of f separator p).inside ≤ f.inside + 1
unfolding frame_of
frame_inside f true p = omega arith
frame_inside f false p = by_test (eqb f.seps 1) (λ e. rw e (omega arith)) (λ e. rw e (omega arith))

-- ---- a line's fields are fields of a layout, and none has more than 26

pub first_few : (t : MessageType) → length (first_labels t) ≤ 26
first_few t = omega (arith, labels_length (layout_of t), few (layout_of t))

pub second_few : (t : MessageType) → length (second_labels t) ≤ 26
second_few Cb = omega (arith, labels_length Mfrr, few Mfrr)
second_few Rc = omega arith
second_few Mg = omega arith
second_few Eb = omega arith
second_few Lb = omega arith
second_few Sr = omega arith
second_few Vq = omega arith
second_few Ri = omega arith
second_few Qr = omega arith

field_le : (sp : List Spelling) (ls : List (List ℕ)) (l : List ℕ) → field_in sp ls l ≤ length ls
unfolding field_in
field_le sp ls l = by_test (any (is 61) l) (λ e. rw e (place_le ls (respell sp (trim (upto (is 61) l))))) (λ e. rw e (omega arith))

module _ (t : MessageType) (n at : ℕ) (l : List ℕ) (i : Item) (it : i ≡ item_in (accents_of t) t n at l) where
  fields_le : ((item_in (accents_of t) t n at l).first ≤ 26) × ((item_in (accents_of t) t n at l).second ≤ 26)
  unfolding item_in fielded
  fields_le =
      by_test (is_sep (trim l)) (λ e. rw e (omega arith, omega arith))
      (λ e.
      by_test (eqb n 1) (λ o. rw (e, o) (omega arith, omega arith))
      (λ o.
      rw (e, o)
      (omega (arith, field_le (accents_of t) (first_labels t) l, first_few t), omega (arith, field_le (accents_of t) (second_labels t) l, second_few t))))

  pub first_le : i.first ≤ 26
  first_le = rw it fields_le.0

  pub second_le : i.second ≤ 26
  second_le = rw it fields_le.1

into_le : (m : Marks) (k : ℕ) → k ≤ 26 → (noted_of m k).into ≤ 26
unfolding noted_of
into_le m k h =
    by_test (eqb k 0) (λ e. rw e (omega arith))
    (λ e. by_test (has m.seen (k - 1)) (λ d. rw (e, d) (omega arith)) (λ d. rw (e, d) h))

pub kept_le : (m : Marks) (k : ℕ) (a : Noted) → k ≤ 26 → a ≡ noted_of m k → a.into ≤ 26
kept_le m k a h e = rw e (into_le m k h)

-- ---- the lines between the separators, the row, and the fields, with a line more

module _ (done : List LineAt) (x : LineAt) where
  inside_more : x.above ≡ 1 → sift if_inside (map forget (done ++ x ∷ [])) ≡ sift if_inside (map forget done) ++ trim x.line ∷ []
  inside_more e =
      ap (sift if_inside) (map-append forget done (x ∷ [])) ∙ sift_snoc if_inside (map forget done) (forget x)
      ∙ ap (λ (l : List (List ℕ)). sift if_inside (map forget done) ++ l) (inside_here (forget x) e)

  inside_same : (x.above ≡ 1 → ⊥) → sift if_inside (map forget (done ++ x ∷ [])) ≡ sift if_inside (map forget done)
  inside_same e =
      ap (sift if_inside) (map-append forget done (x ∷ [])) ∙ sift_snoc if_inside (map forget done) (forget x)
      ∙ ap (λ (l : List (List ℕ)). sift if_inside (map forget done) ++ l) (inside_not (forget x) e)
      ∙ append-nil (sift if_inside (map forget done))

  spots_more : (sp : List Spelling) (ls : List (List ℕ)) → spots sp ls (done ++ x ∷ []) ≡ spots sp ls done ++ onto (spot_in sp ls x) []
  unfolding spots
  spots_more sp ls = sift_snoc (spot_in sp ls) done x

row_other : (done : List LineAt) (x : LineAt) → eqb x.above 1 ≡ false → row_span (done ++ x ∷ []) ≡ row_span done
unfolding row_span
row_other [] x e = rw e
row_other (s ∷ done) x e = by_test (eqb s.above 1) (λ t. rw t) (λ t. rw t (row_other done x e))

row_old : (done : List LineAt) (x : LineAt) → (length (sift if_inside (map forget done)) ≡ 0 → ⊥) → row_span (done ++ x ∷ []) ≡ row_span done
unfolding row_span sift if_inside
row_old [] x n = absurd (n refl)
row_old (s ∷ done) x n = by_test (eqb s.above 1) (λ t. rw t) (λ t. rw t (row_old done x (rw t at n)))

row_new : (done : List LineAt) (x : LineAt) → length (sift if_inside (map forget done)) ≡ 0 → eqb x.above 1 ≡ true
    → row_span (done ++ x ∷ []) ≡ trimmed_at x.at x.line
unfolding row_span sift if_inside
row_new [] x n e = rw e
row_new (s ∷ done) x n e =
    by_test (eqb s.above 1) (λ t. let z = rw t at n in absurd (omega (arith, z))) (λ t. rw t (row_new done x (rw t at n) e))

-- ---- what the state says of the lines passed

pub record Walked (t : MessageType) (file : List ℕ) (f : Frame) (m : Marks) (spans : List Span) (o : Marks) (others : List Span) (done : List LineAt) : Type 0 where
  pub inside : f.inside ≡ length (sift if_inside (map forget done))
  pub row : f.row ≡ row_span done
  pub first : Kept file (first_labels t) m spans (spots (accents_of t) (first_labels t) done)
  pub second : Kept file (second_labels t) o others (spots (accents_of t) (second_labels t) done)

module _ (t : MessageType) (file : List ℕ) (f : Frame) (m : Marks) (spans : List Span) (o : Marks) (others : List Span) (done : List LineAt)
    (w : Walked t file f m spans o others done) (at : ℕ) (l : List ℕ) where
  abbrev After : Item → List LineAt → Type 0
  After i =
      Walked t file (frame_of f i.separator i.value) (noted_of m i.first).marks (set spans (noted_of m i.first).into i.value)
      (noted_of o i.second).marks (set others (noted_of o i.second).into i.value)

  abbrev x : LineAt
  x = line_at f.seps at l

  -- the lists of labels, of a line that has no field
  first_zero : (p : Span) → Kept file (first_labels t) (noted_of m 0).marks (set spans (noted_of m 0).into p) (spots (accents_of t) (first_labels t) done)
  first_zero p = note_zero file (first_labels t) m spans (spots (accents_of t) (first_labels t) done) p w.first 0 refl

  second_zero : (p : Span) → Kept file (second_labels t) (noted_of o 0).marks (set others (noted_of o 0).into p) (spots (accents_of t) (second_labels t) done)
  second_zero p = note_zero file (second_labels t) o others (spots (accents_of t) (second_labels t) done) p w.second 0 refl

  walked_sep : is_sep (trim l) ≡ true → After (item_in (accents_of t) t f.seps at l) done
  unfolding item_in frame_of
  walked_sep e =
      rw e record { inside = w.inside; row = w.row; first = first_zero (trimmed_at at l); second = second_zero (trimmed_at at l) }

  row_more : f.seps ≡ 1 → cond (eqb f.inside 0) (trimmed_at at l) f.row ≡ row_span (done ++ x ∷ [])
  row_more one =
      by_eq f.inside 0
      (λ z. rw (eq-eqb f.inside 0 z) (sym (row_new done x (sym w.inside ∙ z) (eq-eqb f.seps 1 one))))
      (λ z. rw (ne_eqb f.inside 0 z) (w.row ∙ sym (row_old done x (λ y. z (w.inside ∙ y)))))

  row_spots : (sp : List Spelling) (ls : List (List ℕ)) → f.seps ≡ 1 → spots sp ls (done ++ x ∷ []) ≡ spots sp ls done
  unfolding spot_in
  row_spots sp ls one = spots_more done x sp ls ∙ rw (eq-eqb f.seps 1 one) (append-nil (spots sp ls done))

  walked_row : is_sep (trim l) ≡ false → f.seps ≡ 1 → After (item_in (accents_of t) t f.seps at l) (done ++ x ∷ [])
  unfolding item_in frame_of
  walked_row e one =
      let b = eq-eqb f.seps 1 one in
      rw (e, b)
      record {
        inside = rw (inside_more done x one) (omega (arith, w.inside, length-append (sift if_inside (map forget done)) (trim l ∷ [])));
        row = row_more one;
        first = rw (row_spots (accents_of t) (first_labels t) one) (first_zero (trimmed_at at l));
        second = rw (row_spots (accents_of t) (second_labels t) one) (second_zero (trimmed_at at l));
      }

  -- a field's place is its value's: that of a line without a field is nobody's
  spot_place : (k a b : ℕ) → (eqb a 0 && eqb b 0 ≡ true → k ≡ 0) → spot_if k (cond (eqb a 0 && eqb b 0) no_span (value_span at l)) ≡ spot_if k (value_span at l)
  unfolding spot_if
  spot_place k a b z = by_test (eqb a 0 && eqb b 0) (λ t. rw (t, eq-eqb k 0 (z t))) (λ t. rw t)

  field_spots : (sp : List Spelling) (ls : List (List ℕ)) → (f.seps ≡ 1 → ⊥)
      → spots sp ls (done ++ x ∷ []) ≡ spots sp ls done ++ onto (spot_if (field_in sp ls l) (value_span at l)) []
  unfolding spot_in
  field_spots sp ls one = spots_more done x sp ls ∙ rw (ne_eqb f.seps 1 one)

  walked_out : is_sep (trim l) ≡ false → (f.seps ≡ 1 → ⊥) → After (item_in (accents_of t) t f.seps at l) (done ++ x ∷ [])
  unfolding item_in fielded frame_of
  walked_out e one =
      let b = ne_eqb f.seps 1 one in
      let sp = accents_of t in
      let ls = first_labels t in
      let ks = second_labels t in
      let i = field_in sp ls l in
      let j = field_in sp ks l in
      let p = cond (eqb i 0 && eqb j 0) no_span (value_span at l) in
      let first_spot : spot_if i p ≡ spot_if i (value_span at l) = spot_place i i j (λ z. eqb-true i 0 (and_parts (eqb i 0) (eqb j 0) z).0) in
      let second_spot : spot_if j p ≡ spot_if j (value_span at l) = spot_place j i j (λ z. eqb-true j 0 (and_parts (eqb i 0) (eqb j 0) z).1) in
      rw (e, b)
      record {
        inside = rw (inside_same done x one) w.inside;
        row = w.row ∙ sym (row_other done x b);
        first = rw (field_spots sp ls one, sym first_spot) (note_fields file ls m spans (spots sp ls done) p w.first i (field_le sp ls l) (first_few t));
        second =
            rw (field_spots sp ks one, sym second_spot) (note_fields file ks o others (spots sp ks done) p w.second j (field_le sp ks l) (second_few t));
      }

  walked_in : After (item_in (accents_of t) t f.seps at l) (done ++ onto (line_if f.seps at l) [])
  unfolding line_if
  walked_in =
      by_test (is_sep (trim l)) (λ e. rw (e, append-nil done) (walked_sep e))
      (λ e. rw e (by_eq f.seps 1 (walked_row e) (walked_out e)))

  pub walked_line : (i : Item) → i ≡ item_in (accents_of t) t f.seps at l → After i (done ++ onto (line_if f.seps at l) [])
  walked_line i e = subst (λ (y : Item). After y (done ++ onto (line_if f.seps at l) [])) (sym e) walked_in
