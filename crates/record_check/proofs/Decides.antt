-- THE THEOREM: the test holds exactly where the record is valid. Assumes nothing.
use Rattle.value_ask.specs.Values.{size_in}
use Rattle.layout.specs.Layouts.{kinds_of, size_of, type_of}
use Rattle.layout.specs.declared.Layout.{Layout}
use Rattle.layout.specs.FieldNumbers.{reason_field, note_field}
use Rattle.record.specs.Records.{field_of, rooms_of}
use Rattle.record.specs.declared.Cell.{Cell}
use Rattle.record.specs.declared.Record.{Record}
use Rattle.record_rules.specs.Rules.{broken_in}
use Rattle.text.proofs.Tests.{told, Tells, eqb_tells, itself, ◌and◌}
use Rattle.text.specs.Bytes.{all, is}
use Rattle.record_valid.specs.Valid.{ValidAs, Valid, texts_of}
use Rattle.record_check.proofs.Cells.{cells_tell}
use Rattle.record_check.proofs.Gradients.{gradients_tell}
use Rattle.record_check.proofs.Held.{hold_tells}
use Rattle.record_check.proofs.Kept.{room_tells}
use Rattle.record_check.specs.Validity.{is_blank_cell, are_clear, no_triples, is_sized, is_valid}
use Rattle.value.specs.declared.Value.{Value}
use Rattle.writer_form.proofs.Texts.{unit_said, reason_said, note_said}
use Rattle.writer_form.proofs.Values.{values_are}
use Rattle.writer_form.specs.Written.{values_in}
use lib.ListN.{length, drop}
use mathlib.Core.List.{List}
use mathlib.Core.Path.{refl, sym, subst}

module _ (r : Record) where
  abbrev l : Layout
  l = r.layout

  abbrev cells : List Cell
  cells = r.cells

  abbrev values : List Value
  values = values_in l cells

  -- of the values in its cells: where they are held, each room is told by its size and its unused part
  as_tells : Tells (is_valid r) (ValidAs r values)
  unfolding is_valid is_sized are_clear texts_of
  as_tells =
      let sized = eqb_tells (length cells) 26 and eqb_tells (length r.unit) 16 and eqb_tells (length r.reason) 128 in
      let all_sized = sized and eqb_tells (length r.note) 256 and eqb_tells (length r.gradients) 16 in
      let held = hold_tells (type_of l) (rooms_of r) (kinds_of l) values in
      let blank = itself (all is_blank_cell (drop (size_of l) cells)) in
      let unit = itself (all (is 0) (drop (size_in (field_of cells 2)) r.unit)) in
      let reason = itself (all (is 0) (drop (size_in (field_of cells (reason_field l))) r.reason)) in
      let note = itself (all (is 0) (drop (size_in (field_of cells (note_field l))) r.note)) in
      let gradients = itself (no_triples l r.gradients) in
      told (all_sized and (held and blank and (unit and reason and note) and gradients and eqb_tells (broken_in r) 0))
      (λ p.
      let size = p.0 in
      let test = p.1 in
      let hold = test.0.0.0.0 in
      let clear = test.0.0.1 in
      record {
        hold = hold;
        cells_are = (cells_tell l cells hold).0 (size.0.0.0.0, test.0.0.0.1);
        unit_is = (room_tells (unit_said l (rooms_of r) cells refl hold)).0 (size.0.0.0.1, clear.0.0);
        reason_is = (room_tells (reason_said l (rooms_of r) cells refl hold)).0 (size.0.0.1, clear.0.1);
        note_is = (room_tells (note_said l (rooms_of r) cells refl hold)).0 (size.0.1, clear.1);
        no_gradients = (gradients_tell l (rooms_of r) cells hold).0 (size.1, test.0.1);
        unbroken = test.1;
      })
      (λ v.
      let hold = v.hold in
      let c = (cells_tell l cells hold).1 v.cells_are in
      let u = (room_tells (unit_said l (rooms_of r) cells refl hold)).1 v.unit_is in
      let s = (room_tells (reason_said l (rooms_of r) cells refl hold)).1 v.reason_is in
      let n = (room_tells (note_said l (rooms_of r) cells refl hold)).1 v.note_is in
      let g = (gradients_tell l (rooms_of r) cells hold).1 v.no_gradients in (
        ((((c.0, u.0), s.0), n.0), g.0),
        ((((hold, c.1), ((u.1, s.1), n.1)), g.1), v.unbroken),
      ))

-- a valid record has no other values than those
pub valid_tells : (r : Record) → Tells (is_valid r) (Valid r)
valid_tells r =
    told (as_tells r) (λ v. record { values = values r; valid = v }) (λ w. subst (ValidAs r) (sym (values_are w.valid)) w.valid)
