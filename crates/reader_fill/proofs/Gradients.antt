-- The gradients are read once, before the loop over the fields: what was read of them is the value of their field. Assumes nothing.
use Rattle.value_list.specs.declared.Triple.{Triple}
use Rattle.value.specs.declared.Value.{Value}
use Rattle.std.specs.Prelude.{None, Option, Some}
use Prim.Native.Nat.{ℕ, ◌+◌, ◌≤◌, ◌<◌}
use Rattle.reader_fill.specs.Filled.{value_with}
use Rattle.layout.proofs.Labels.{few}
use Rattle.layout.specs.Fields.{command, technical, market}
use Rattle.layout.specs.Layouts.{fields_of, kinds_of, kind_at, size_of}
use Rattle.layout.specs.Rows.{text_at}
use Rattle.layout.specs.declared.Layout.{Layout}
use Rattle.layout.specs.declared.Layout.TheVariants.{Market, Mfrr, Revocation, Generic, Exclusion, Limitation, Secondary, VoltVar, Rejection, Reserve}
use Rattle.text_lines.proofs.Columns.{column_at_lem}
use Rattle.text_lines.specs.Places.{part_of, span_at, column_in, Placed}
use Rattle.text_lines.specs.declared.Span.{Span}
use Rattle.value_list.proofs.Lines.{no_gradients}
use Rattle.value_list.specs.Forms.{amount_of, one_of, one_in, triple_is, triple_in, gradients_in, counted_triples}
use Rattle.value_list.specs.Lists.{cut_at, cons_read, every_of, counted, some_of}
use Rattle.value_list.specs.declared.Gradients.{Gradients}
use Rattle.layout.specs.FieldNumbers.{gradients_field}
use Rattle.text.proofs.Tests.{by_eq}
use Rattle.text.specs.Bytes.{trim, skip, skip_end}
use Rattle.value.specs.Kinds.{triples_counted, triples_from, shape_of, value_of}
use borrow.Author.Tests.{eq-eqb, ne_eqb}
use lib.IntN.{ℤ}
use lib.ListN.{length}
use mathlib.Core.List.{List, []}
use mathlib.Core.Path.{◌≡◌, refl, sym, ap, ◌∙◌}
use native.Mathlib.Omega.{arith}

-- ---- a layout without gradients: its text is empty, and none are read

one_part : (o : Option ℤ) → one_of (counted 3 3 (cons_read o (Some []))) ≡ None
unfolding counted cons_read
one_part None = refl
one_part (Some v) = refl

no_triple_lem : one_in [] ≡ None
unfolding one_in some_of every_of cut_at
no_triple_lem = one_part (amount_of (trim []))

nothing : some_of triple_in 59 1 16 [] ≡ None
unfolding some_of every_of cut_at counted cons_read trim skip skip_end
nothing = ap (λ (o : Option Triple). counted 1 16 (cons_read (triple_is o) (Some []))) no_triple_lem

pub none_there : (col : List (List ℕ)) (k j : ℕ) → k ≡ j → k ≡ 0
    → None ≡ gradients_in (text_at col j)
none_there col k j e z = no_gradients [] nothing ∙ ap (λ (n : ℕ). gradients_in (text_at col n)) (sym z ∙ e)

pub read_there : (col : List (List ℕ)) (k j : ℕ) (s : List ℕ) (g : Option Gradients)
    → k ≡ j → s ≡ text_at col k → g ≡ gradients_in s → g ≡ gradients_in (text_at col j)
read_there col k j s g e t r = r ∙ ap gradients_in (t ∙ ap (text_at col) e)

-- ---- the value of a field

module _ (l : Layout) (k : ℕ) (count : Option ℕ) (s : List ℕ) (j : ℕ) (field : j ≡ gradients_field l) where
  pub there : k ≡ j → triples_counted count ≡ value_with l k count s
  unfolding value_with
  there e = rw (eq-eqb k (gradients_field l) (e ∙ field))

  pub elsewhere : (k ≡ j → ⊥) → (r : Option Value) → r ≡ value_of (kind_at l k) s → r ≡ value_with l k count s
  unfolding value_with
  elsewhere n r e = rw (ne_eqb k (gradients_field l) (λ q. n (q ∙ sym field))) e

-- the kind of the field with the gradients is that of triples, and no blank
triples_kind : (l : Layout) (s : List ℕ) → 1 ≤ gradients_field l → triples_from (gradients_in s) ≡ value_of (kind_at l (gradients_field l)) s
unfolding value_of shape_of kind_at kinds_of fields_of market command technical
triples_kind Market s h = refl
triples_kind Mfrr s h = absurd (omega arith)
triples_kind Revocation s h = absurd (omega arith)
triples_kind Generic s h = absurd (omega arith)
triples_kind Exclusion s h = absurd (omega arith)
triples_kind Limitation s h = absurd (omega arith)
triples_kind Secondary s h = absurd (omega arith)
triples_kind VoltVar s h = absurd (omega arith)
triples_kind Rejection s h = absurd (omega arith)
triples_kind Reserve s h = absurd (omega arith)

value_with_lem : (l : Layout) (k : ℕ) (s : List ℕ) (g : Option Gradients) → 1 ≤ k → (k ≡ gradients_field l → g ≡ gradients_in s)
    → value_with l k (counted_triples g) s ≡ value_of (kind_at l k) s
unfolding value_with
value_with_lem l k s g h f =
    by_eq k (gradients_field l)
    (λ e.
    let at_least : 1 ≤ gradients_field l = omega (arith, e) in
    rw (eq-eqb k (gradients_field l) e) (ap triples_from (f e) ∙ triples_kind l s at_least ∙ ap (λ (n : ℕ). value_of (kind_at l n) s) (sym e)))
    (λ n. rw (ne_eqb k (gradients_field l) n))

-- a field of the loop: with what was read of the gradients it has the value of its own kind
pub field_value : (l : Layout) (file : List ℕ) (spans : List Span) (k : ℕ) → Placed (size_of l) file spans → k < size_of l
    → (g : Option Gradients) → g ≡ gradients_in (text_at (column_in (size_of l) file spans) (gradients_field l))
    → (r : Option Value) → r ≡ value_with l (k + 1) (counted_triples g) (part_of file (span_at spans (k + 1)))
    → r ≡ value_of (kind_at l (k + 1)) (part_of file (span_at spans (k + 1)))
field_value l file spans k p h g e r q =
    let j : size_of l < length spans = omega (arith, few l, p.long) in
    let t : text_at (column_in (size_of l) file spans) (k + 1) ≡ part_of file (span_at spans (k + 1)) =
    column_at_lem (size_of l) (k + 1) file spans (omega arith) (omega arith) j
    in
    q ∙ value_with_lem l (k + 1) (part_of file (span_at spans (k + 1))) g (omega arith)
    (λ f. e ∙ ap gradients_in (ap (text_at (column_in (size_of l) file spans)) (sym f) ∙ t))
