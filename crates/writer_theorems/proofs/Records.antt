-- A valid record from the column of its texts: they are tidy, each reads as its value, and together they give the record. Assumes nothing.
use Prim.Native.Nat.{ℕ, suc, ◌≤◌}
use Rattle.value_ask.specs.Values.{size_in}
use Rattle.report_brief.specs.Brief.{unit_of}
use Rattle.layout.specs.Rows.{text_at}
use Rattle.value_list.proofs.RoundTrip.{gradients_back}
use Rattle.value_list.specs.Forms.{gradients_in, kept_triples}
use Rattle.value_list.specs.declared.Triple.{Triple}
use Rattle.value_name.specs.declared.MessageType.{MessageType}
use Rattle.reader_theorems.proofs.Held.{no_gradients}
use Rattle.record.proofs.Places.{gradients_at}
use Rattle.record.specs.Records.Typed.{good}
use Rattle.layout.specs.FieldNumbers.{reason_field, note_field, gradients_field}
use Rattle.record.specs.Records.{joined, typed, field_of, record_of, rooms_of}
use Rattle.record.specs.declared.Record.{Record}
use Rattle.text_room.specs.Rooms.{kept_in}
use Rattle.text.specs.Bytes.{all, tidy}
use Rattle.text.specs.Puts.{room_of}
use Rattle.record_valid.specs.Valid.HoldAll.{end, next}
use Rattle.record_valid.specs.Valid.{HoldAll, texts_of, ValidAs}
use Rattle.value.proofs.Back.{value_back}
use Rattle.value.proofs.Shown.{value_tidy}
use Rattle.value.specs.Texts.{Rooms, value_text}
use Rattle.value.specs.declared.Kind.{Kind}
use Rattle.value.specs.declared.Value.{Value}
use Rattle.writer_form.proofs.Texts.{Front, front_short, Listed, unit_said, reason_said, note_said, triples_said}
use Rattle.writer_form.proofs.Values.{values_are}
use borrow.Author.Tests.{le-leb}
use lib.ListN.{length}
use mathlib.Core.Bool.{true}
use mathlib.Core.List.{List, map}
use mathlib.Core.Logic.{⊎_elim}
use mathlib.Core.Path.{◌≡◌, refl, sym, ap, ◌∙◌}

-- ---- the column

module _ {t : MessageType} {r : Rooms} where
  pub column_tidy : {ks : List Kind} {vs : List Value} → HoldAll t r ks vs → all tidy (map (value_text t r) vs) ≡ true
  unfolding all
  column_tidy end = refl
  column_tidy (next {k} {v = v} h hs) = rw (value_tidy t r k v h) (column_tidy hs)

  pub typed_back : (k : ℕ) {ks : List Kind} {vs : List Value} → HoldAll t r ks vs → typed k ks (map (value_text t r) vs) ≡ good vs
  unfolding typed joined
  typed_back k end = refl
  typed_back k (next {k = d} {v = v} h hs) = rw (value_back t r d v h, typed_back (suc k) hs)

-- ---- the record

module _ {r : Record} {vs : List Value} (v : ValidAs r vs) where
  abbrev col : List (List ℕ)
  col = texts_of r vs

  -- a room that has its text is what the text is kept in
  kept : (n : ℕ) (s room : List ℕ) → room ≡ room_of n s → length s ≤ n → kept_in n s ≡ room
  unfolding kept_in
  kept n s room e h = rw (le-leb (length s) n h) (sym e)

  unit_front : Front 16 r.unit (text_at col 2) (size_in (field_of r.cells 2))
  unfolding texts_of
  unit_front = unit_said r.layout (rooms_of r) r.cells (values_are v) v.hold

  -- the text of its unit is that unit's code
  pub unit_code : text_at col 2 ≡ unit_of r
  unfolding unit_of
  unit_code = unit_front.text_is

  unit_back : kept_in 16 (text_at col 2) ≡ r.unit
  unit_back = kept 16 (text_at col 2) r.unit v.unit_is (front_short unit_front)

  reason_back : kept_in 128 (text_at col (reason_field r.layout)) ≡ r.reason
  unfolding texts_of
  reason_back =
      let f = reason_said r.layout (rooms_of r) r.cells (values_are v) v.hold in
      kept 128 (text_at col (reason_field r.layout)) r.reason v.reason_is (front_short f)

  note_back : kept_in 256 (text_at col (note_field r.layout)) ≡ r.note
  unfolding texts_of
  note_back =
      let f = note_said r.layout (rooms_of r) r.cells (values_are v) v.hold in
      kept 256 (text_at col (note_field r.layout)) r.note v.note_is (front_short f)

  -- the triples that a text lists are read from it
  listed_back : (room : List Triple) (s : List ℕ) → Listed room s → kept_triples (gradients_in s) ≡ room
  listed_back room s x =
      ap (λ (t : List ℕ). kept_triples (gradients_in t)) x.text_is
      ∙ ap kept_triples (gradients_back room x.count x.are)

  triples_back : kept_triples (gradients_in (text_at col (gradients_field r.layout))) ≡ r.gradients
  unfolding texts_of
  triples_back =
      let k = gradients_field r.layout in
      ⊎_elim (λ e. no_gradients col k e ∙ sym (v.no_gradients e))
      (λ o. listed_back r.gradients (text_at col k) (triples_said r.layout (rooms_of r) r.cells (values_are v) v.hold o))
      (gradients_at r.layout)

  pub record_back : record_of r.layout col vs ≡ r
  unfolding record_of
  record_back = λ i. record {
    layout = r.layout;
    cells = sym v.cells_are i;
    unit = unit_back i;
    reason = reason_back i;
    note = note_back i;
    gradients = triples_back i;
  }
