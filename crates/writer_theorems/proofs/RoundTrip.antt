-- THE THEOREM: a valid record, written and read at its own address, comes back the same: for all ten layouts by one argument. Assumes nothing.
use Prim.Native.Nat.{ℕ, ◌≤◌}
use Rattle.layout.specs.Layouts.{labels_of, size_of, type_of}
use Rattle.layout.specs.Rows.{text_at, row_of}
use Rattle.layout.specs.declared.Layout.{Layout}
use Rattle.reader_accent.specs.Accents.{accents_of}
use Rattle.text_lines.specs.Entries.{again, missing}
use Rattle.text_lines.specs.Lines.{texts, framed, allowed_upto}
use Rattle.text_lines.specs.Spellings.{Spelling}
use Rattle.value_name.specs.declared.MessageType.{MessageType}
use Rattle.plan.specs.Plans.{plan_of, sought_of}
use Rattle.plan.specs.Plans.{SoughtSaid}
use Rattle.reader.proofs.Firsts.{answer_no, none_given}
use Rattle.reader.specs.Messages.{given, row_in, layout_in, entries_in, values_of, is_bad, column_record, good_of}
use Rattle.reader.specs.Reader.{is_there, valued, labelled, reading, body_column, record_in, message_of, unit_in, planned, answer_at, read_of}
use Rattle.reader.specs.Refusals.{accepted}
use Rattle.record.specs.Records.{Typed, record_of, rooms_of}
use Rattle.record.specs.declared.Record.{Record}
use Rattle.writer_theorems.proofs.Back.{all_clean, ReadBack, written_back}
use Rattle.writer_theorems.proofs.Records.{column_tidy, typed_back, record_back, unit_code}
use Rattle.writer_theorems.specs.Own.{Fitting, OwnAddress}
use Rattle.record_rules.specs.Rules.{broken_in}
use Rattle.text.proofs.Cuts.{same_refl}
use Rattle.text.specs.Bytes.{same, within}
use Rattle.text.specs.Refusals.{NoneHolds, none, next}
use Rattle.record_valid.specs.Valid.{texts_of, ValidAs, Valid}
use Rattle.value.specs.Texts.{value_text}
use Rattle.value.specs.declared.Value.{Value}
use Rattle.writer_form.proofs.Sizes.{written_some, message_small}
use Rattle.writer_form.proofs.Values.{values_length, values_are, file_is}
use Rattle.writer_form.specs.Written.{file_of}
use borrow.Author.Tests.{le-leb, le-ltb}
use lib.Dec.{eqb, ltb}
use lib.ListN.{length, length-map}
use mathlib.Core.Bool.{false, not}
use mathlib.Core.List.{List, []}
use mathlib.Core.Path.{◌≡◌, sym, ap, ◌∙◌, subst}
use native.Mathlib.Omega.{arith}

module _ {r : Record} {vs : List Value} (v : ValidAs r vs) where
  abbrev lay : Layout
  lay = r.layout

  abbrev col : List (List ℕ)
  col = texts_of r vs

  -- ---- its file is read as its column

  column_length : length col ≡ size_of lay
  unfolding texts_of
  column_length = length-map vs (value_text (type_of lay) (rooms_of r)) ∙ values_length v

  pub file_back : ReadBack lay col (file_of r)
  unfolding texts_of
  file_back = subst (ReadBack lay col) (sym (file_is v)) (written_back lay col column_length (column_tidy v.hold))

  pub file_some : 1 ≤ length (file_of r)
  file_some = subst (λ (f : List ℕ). 1 ≤ length f) (sym (file_is v)) (written_some lay col)

  pub file_small : length (file_of r) ≤ 8192
  unfolding file_of
  file_small = message_small lay (rooms_of r) r.cells (rw (values_are v) v.hold)

  -- none of its bytes is the accent of a label
  pub file_plain : (sp : List Spelling) → allowed_upto sp (file_of r) ≡ length (file_of r)
  unfolding texts_of
  file_plain sp = subst (λ (f : List ℕ). allowed_upto sp f ≡ length f) (sym (file_is v)) (all_clean lay col (column_tidy v.hold) sp)

  -- ---- the file gives the record, and no refusal's condition holds

  abbrev type : MessageType
  type = type_of lay

  body_of : column_record lay col ≡ r
  unfolding column_record values_of texts_of
  body_of = ap (λ (y : Typed). record_of lay col (good_of y)) (typed_back 1 v.hold) ∙ record_back v

  pub content_is : record_in type (file_of r) ≡ r
  unfolding record_in entries_in
  content_is = let b = file_back in rw (b.layout_is, b.column_is) body_of

  none_holds : (unit : List ℕ) → unit ≡ text_at col 2 → NoneHolds (reading type unit (file_of r))
  unfolding reading labelled valued entries_in values_of texts_of
  none_holds unit u =
      let b = file_back in
      let f = file_of r in
      let size : not (within 1 8192 (length f)) ≡ false = rw (le-leb 1 (length f) file_some, le-leb (length f) 8192 file_small) in
      let bytes : ltb (allowed_upto (accents_of type) f) (length f) ≡ false = rw b.clean (le-ltb (length f) (length f) (omega arith)) in
      let frame : not (framed (texts f)) ≡ false = rw b.is_framed in
      let once : is_there (again [] (entries_in type f)) ≡ false = rw (b.layout_is, b.none_twice) in
      let complete : ltb 0 (missing 1 (labels_of (layout_in type (given type f))) (entries_in type f)) ≡ false = rw (b.layout_is, b.none_missing) in
      let read : is_bad (values_of (layout_in type (given type f)) (body_column type f)) ≡ false = rw (b.layout_is, b.column_is, typed_back 1 v.hold) in
      let unbroken : ltb 0 (broken_in (column_record (layout_in type (given type f)) (body_column type f))) ≡ false =
      rw (b.layout_is, b.column_is, body_of, v.unbroken) in
      let named : not (same unit (text_at (body_column type f) 2)) ≡ false = rw (b.layout_is, b.column_is, u, same_refl (text_at col 2)) in
      let summed : not (same (row_in f) (row_of (layout_in type (given type f)) (body_column type f))) ≡ false =
      rw (b.layout_is, b.row_is, b.column_is, same_refl (row_of lay col)) in
      next size (next bytes (next frame (next once (next complete (next read (next unbroken (next named (next summed none))))))))

  pub message_back : (unit : List ℕ) → unit ≡ text_at col 2 → message_of type unit (file_of r) ≡ accepted r
  unfolding message_of
  message_back unit u = none_given (record_in type (file_of r)) (none_holds unit u) ∙ ap accepted content_is

-- ---- at an address of a plan

-- where the plan is good and has the address, a file is read as a message, whatever it is
pub planned_back : (s : SoughtSaid) (file : List ℕ) → eqb s.number 13 ≡ false → eqb s.number 1 ≡ false
    → answer_at s file ≡ message_of s.message (unit_in s) file
unfolding answer_at planned message_of
planned_back s file e h =
    answer_no 13 s.detail (eqb s.number 13) _ (record_in s.message file) e
    ∙ answer_no 1 0 (eqb s.number 1) _ (record_in s.message file) h

at_back : (r : Record) → Valid r → (s : SoughtSaid) → Fitting r s → answer_at s (file_of r) ≡ accepted r
at_back r w s a =
    planned_back s (file_of r) (rw a.found) (rw a.found)
    ∙ ap (λ (t : MessageType). message_of t (unit_in s) (file_of r)) a.type_is
    ∙ message_back w.valid (unit_in s) (a.unit_is ∙ sym (unit_code w.valid))

pub round_trip : (r : Record) → Valid r → (ca ioa : ℕ) (plan : List ℕ) → OwnAddress r ca ioa plan → read_of ca ioa plan (file_of r) ≡ accepted r
unfolding read_of
round_trip r w ca ioa plan a = at_back r w (sought_of ca ioa (plan_of plan)) a

-- a written file is no longer than a file may be
pub small_file : (r : Record) → Valid r → length (file_of r) ≤ 8192
small_file r w = file_small w.valid
