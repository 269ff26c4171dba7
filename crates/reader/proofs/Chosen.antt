-- Which layout a CB file is: the labels seen say whether `Tipo Comando` has a line. Assumes nothing.
use Prim.Native.Nat.{ℕ, ◌≤◌}
use Rattle.reader_line.specs.Items.{second_labels}
use Rattle.layout.specs.Fields.{mfrr}
use Rattle.layout.specs.Layouts.{fields_of, labels_of, layout_of, type_of}
use Rattle.layout.specs.declared.Layout.TheVariants.{Mfrr}
use Rattle.text_lines.proofs.Standing.{place_at}
use Rattle.text_lines.specs.Entries.{entry_of, entries, place_of, stands}
use Rattle.text_lines.specs.Lines.{Param}
use Rattle.text_lines.specs.declared.Span.{Span}
use Rattle.value_name.specs.declared.MessageType.{MessageType}
use Rattle.value_name.specs.declared.MessageType.TheVariants.{Cb, Rc, Mg, Eb, Lb, Sr, Vq, Ri, Qr}
use Rattle.reader.specs.Messages.{given, layout_in, is_kind_of_command}
use Rattle.reader.specs.State.{is_mfrr}
use Rattle.text.proofs.Cuts.{same_true}
use Rattle.text.proofs.Tests.{by_test}
use Rattle.text.specs.Bytes.{bytes, same, any}
use Rattle.text.specs.Lists.{sift}
use Rattle.reader_walk.proofs.Fields.{has_by}
use Rattle.reader_walk.proofs.Told.{Fields}
use Rattle.reader_walk.specs.declared.Marks.{Marks}
use borrow.Author.Tests.{eq-eqb, ne_eqb, eqb-true}
use lib.Dec.{eqb}
use lib.ListN.{length, get_or}
use mathlib.Core.Bool.{Bool, true, false, ◌||◌}
use mathlib.Core.List.{List, [], ◌∷◌}
use mathlib.Core.Path.{◌≡◌, refl, sym, ap, ap₂, ◌∙◌}
use native.Mathlib.Omega.{arith}

tipo_place : place_of (labels_of Mfrr) (bytes "Tipo Comando") ≡ 8
unfolding labels_of fields_of mfrr place_of same
tipo_place = refl

tipo_label : get_or (labels_of Mfrr) 7 [] ≡ bytes "Tipo Comando"
unfolding labels_of fields_of mfrr
tipo_label = refl

-- a label is `Tipo Comando` exactly when it is the field 8 of mFRR
is_eighth : (x : List ℕ) → same (bytes "Tipo Comando") x ≡ eqb 8 (place_of (labels_of Mfrr) x)
is_eighth x =
    by_test (same (bytes "Tipo Comando") x)
    (λ e. e ∙ sym (eq-eqb 8 (place_of (labels_of Mfrr) x) (sym (ap (place_of (labels_of Mfrr)) (sym (same_true (bytes "Tipo Comando") x e)) ∙ tipo_place))))
    (λ e. e ∙ sym (ne_eqb 8 (place_of (labels_of Mfrr) x) (λ q. clash e (sym (ap (λ (s : List ℕ). same s x) tipo_label) ∙ place_at (labels_of Mfrr) x 7 (sym q)))))
  where
    clash : {b : Bool} → b ≡ false → b ≡ true → ⊥
    clash e q = let z : ◌≡◌ {A = ℕ} 0 1 = cc in omega arith

or_step : (a b c : Bool) → b ≡ c → (a || b) ≡ (a || c)
or_step a b c e = ap (λ (x : Bool). a || x) e

-- the field 8 stands exactly when some line has that label
tipo_stands : (ps : List Param) → any is_kind_of_command ps ≡ stands 8 (entries (labels_of Mfrr) ps)
unfolding any stands entries sift entry_of
tipo_stands [] = refl
tipo_stands (p ∷ ps) =
    by_test (eqb (place_of (labels_of Mfrr) p.label) 0)
    (λ e. rw (e, is_eighth p.label, eqb-true (place_of (labels_of Mfrr) p.label) 0 e) (tipo_stands ps))
    (λ e. rw e (ap₂ (λ (a b : Bool). a || b) (is_eighth p.label) (tipo_stands ps)))

mfrr_size : length (labels_of Mfrr) ≡ 12
unfolding labels_of fields_of mfrr
mfrr_size = refl

false_true : false ≡ true → ⊥
false_true e = let z : ◌≡◌ {A = ℕ} 0 1 = cc in omega arith

module _ (file : List ℕ) (m : Marks) (spans : List Span) where
  tipo_bit : Fields file (labels_of Mfrr) m spans (entries (labels_of Mfrr) (given Cb file)) → any is_kind_of_command (given Cb file) ≡ is_mfrr Cb m.seen
  tipo_bit f =
      let h : 8 ≤ length (labels_of Mfrr) = omega (arith, mfrr_size) in
      let one : 1 ≤ 8 = omega arith in
      tipo_stands (given Cb file) ∙ sym (has_by (labels_of Mfrr) (entries (labels_of Mfrr) (given Cb file)) 8 m.seen f.seen one h)

  pub is_mfrr_lem : (t : MessageType) → Fields file (second_labels t) m spans (entries (second_labels t) (given t file)) → is_mfrr t m.seen ≡ true
      → (t ≡ Cb) × (layout_in t (given t file) ≡ Mfrr)
  unfolding layout_in
  is_mfrr_lem Cb f e = (refl, rw (tipo_bit f ∙ e))
  is_mfrr_lem Rc f e = absurd (false_true e)
  is_mfrr_lem Mg f e = absurd (false_true e)
  is_mfrr_lem Eb f e = absurd (false_true e)
  is_mfrr_lem Lb f e = absurd (false_true e)
  is_mfrr_lem Sr f e = absurd (false_true e)
  is_mfrr_lem Vq f e = absurd (false_true e)
  is_mfrr_lem Ri f e = absurd (false_true e)
  is_mfrr_lem Qr f e = absurd (false_true e)

  pub not_mfrr : (t : MessageType) → Fields file (second_labels t) m spans (entries (second_labels t) (given t file)) → is_mfrr t m.seen ≡ false
      → layout_in t (given t file) ≡ layout_of t
  unfolding layout_in
  not_mfrr Cb f e = rw (tipo_bit f ∙ e)
  not_mfrr Rc f e = refl
  not_mfrr Mg f e = refl
  not_mfrr Eb f e = refl
  not_mfrr Lb f e = refl
  not_mfrr Sr f e = refl
  not_mfrr Vq f e = refl
  not_mfrr Ri f e = refl
  not_mfrr Qr f e = refl

-- ---- the layout of a file is one of its type

pub type_in : (t : MessageType) (ps : List Param) → type_of (layout_in t ps) ≡ t
unfolding layout_in
type_in Cb ps = by_test (any is_kind_of_command ps) (λ e. rw e) (λ e. rw e)
type_in Rc ps = refl
type_in Mg ps = refl
type_in Eb ps = refl
type_in Lb ps = refl
type_in Sr ps = refl
type_in Vq ps = refl
type_in Ri ps = refl
type_in Qr ps = refl
