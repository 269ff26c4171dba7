-- The values of a layout's fields, and their texts: which stands where, and that each is one that its kind may hold.
-- Assumes nothing.
use Prim.Native.Nat.{ℕ, zero, suc, ◌≤◌, ◌<◌}
use Rattle.value_ask.specs.Values.{is_filled}
use Rattle.layout.proofs.Labels.{kinds_length}
use Rattle.layout.specs.Layouts.{kinds_of, no_kind, size_of, type_of}
use Rattle.layout.specs.Rows.{text_at}
use Rattle.layout.specs.declared.Layout.{Layout}
use Rattle.value_name.specs.declared.MessageType.{MessageType}
use Rattle.record.specs.Records.{cell, field_of}
use Rattle.record.specs.declared.Cell.{Cell}
use Rattle.value_put.proofs.Sizes.{text_short}
use Rattle.record_valid.proofs.Hold.{hold_at, hold_length}
use Rattle.value.proofs.Back.{not_empty}
use Rattle.value.specs.Texts.{Rooms, value_text}
use Rattle.value.specs.Valid.{Holds}
use Rattle.value.specs.Valid.Holds.{blank, filled}
use Rattle.value.specs.declared.Kind.{Kind}
use Rattle.value.specs.declared.Value.{Value}
use Rattle.value.specs.declared.Value.TheVariants.{Blank, Id, Unit, When, Amount, Count, Reason, Note, Word, List as Numbers, Triples, Voltage, Regulator}
use Rattle.value.specs.declared.Value.TheVariants.{Change, Reactive}
use Rattle.writer_form.specs.Held.{Spoken, Held}
use Rattle.writer_form.specs.Written.{values_in}
use borrow.Author.Tests.{not-true, not-false}
use lib.ListN.{length, get_or, take, length-map, get_or-map}
use lib.Seq.{get_or-take}
use mathlib.Core.Bool.{Bool, true, false, not, true≢false}
use mathlib.Core.List.{List, [], map}
use mathlib.Core.Path.{◌≡◌, refl, sym, ap, ◌∙◌}
use native.Mathlib.Omega.{arith}

-- ---- a blank has no text

pub blank_text : (t : MessageType) (r : Rooms) (v : Value) → is_filled v ≡ false → value_text t r v ≡ []
unfolding value_text
blank_text t r Blank e = refl
blank_text t r (Id n) e = absurd (true≢false e)
blank_text t r (Unit n) e = absurd (true≢false e)
blank_text t r (When d) e = absurd (true≢false e)
blank_text t r (Amount v) e = absurd (true≢false e)
blank_text t r (Count n) e = absurd (true≢false e)
blank_text t r (Reason n) e = absurd (true≢false e)
blank_text t r (Note n) e = absurd (true≢false e)
blank_text t r (Word w) e = absurd (true≢false e)
blank_text t r (Numbers x) e = absurd (true≢false e)
blank_text t r (Triples n) e = absurd (true≢false e)
blank_text t r (Voltage v) e = absurd (true≢false e)
blank_text t r (Regulator v) e = absurd (true≢false e)
blank_text t r (Change v) e = absurd (true≢false e)
blank_text t r (Reactive v) e = absurd (true≢false e)

-- a test of the code, `!is_filled(v)`
module _ (v : Value) (f : Bool) (e : f ≡ is_filled v) where
  pub told_blank : not f ≡ true → is_filled v ≡ false
  told_blank h = sym e ∙ not-true f h

  pub told_filled : not f ≡ false → is_filled v ≡ true
  told_filled h = sym e ∙ not-false f h

-- ---- the column of a layout's texts

abbrev pub column_of : Layout → Rooms → List Cell → List (List ℕ)
column_of l r cells = map (value_text (type_of l) r) (values_in l cells)

-- the field of a place that the layout has
pub field_at : (l : Layout) (cells : List Cell) (j : ℕ) → j < size_of l → field_of cells (suc j) ≡ get_or (values_in l cells) j Blank
unfolding field_of values_in
field_at l cells j h =
    ap (λ (c : Cell). c.value) (sym (get_or-take (size_of l) cells j (cell Blank) h))
    ∙ sym (get_or-map (λ (c : Cell). c.value) (take (size_of l) cells) j (cell Blank))

pub text_at_lem : (l : Layout) (r : Rooms) (cells : List Cell) (k : ℕ) → 1 ≤ k → k ≤ size_of l
    → text_at (column_of l r cells) k ≡ value_text (type_of l) r (field_of cells k)
unfolding value_text
text_at_lem l r cells zero h j = absurd (omega arith)
text_at_lem l r cells (suc i) h j =
    get_or-map (value_text (type_of l) r) (values_in l cells) i Blank ∙ ap (value_text (type_of l) r) (sym (field_at l cells i j))

-- ---- what is held

-- a value that is held is blank, or has a text
holds_speaks : (t : MessageType) (r : Rooms) (k : Kind) (v : Value) → Holds t r k v → is_filled v ≡ true → 1 ≤ length (value_text t r v)
holds_speaks t r k v (blank b) e = absurd (true≢false (sym e))
holds_speaks t r k v (filled f) e = not_empty t r k.shape v f

module _ (l : Layout) (r : Rooms) (cells : List Cell) (held : Held l r cells) where
  pub column_length : length (column_of l r cells) ≡ size_of l
  column_length =
      length-map (values_in l cells) (value_text (type_of l) r) ∙ hold_length held.hold ∙ kinds_length l

  pub field_holds : (i : ℕ) → i < size_of l → Holds (type_of l) r (get_or (kinds_of l) i no_kind) (field_of cells (suc i))
  field_holds i h = rw (field_at l cells i h) (hold_at held.hold i (omega (arith, kinds_length l)))

  -- the cell at i is the field after it
  pub spoken : (i : ℕ) → i < size_of l → Spoken (type_of l) r (get_or cells i (cell Blank)).value
  unfolding field_of
  spoken i h =
      record {
        narrow = held.narrow;
        speaks = holds_speaks (type_of l) r (get_or (kinds_of l) i no_kind) (field_of cells (suc i)) (field_holds i h);
      }

  pub field_short : length r.gradients ≡ 16 → (k : ℕ) → 1 ≤ k → k ≤ size_of l → length (text_at (column_of l r cells) k) ≤ 623
  field_short g k h j = rw (text_at_lem l r cells k h j) (text_short (type_of l) r (field_of cells k) held.narrow g)
