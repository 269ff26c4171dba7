use Prim.Native.Nat.{ℕ}
use Rattle.reader_fill.proofs.Records.{room_is, record_is}
use Rattle.layout.specs.Layouts.{size_of}
use Rattle.text_lines.specs.Places.{column_in}
use Rattle.record.proofs.Rooms.{unit_in, reason_in, note_in}
use mathlib.Core.List.{List}
use mathlib.Core.Path.{refl}
use native.Mathlib.Omega.{arith}
use Rattle.reader_fill.proofs.record_of.Goals as goal

-- Each room has the text of its field.
pub text_at-requires : goal.text_at-requires
text_at-requires c = (omega (arith, unit_in c.args.l), c.requires)

pub text_at-requires-2 : goal.text_at-requires-2
text_at-requires-2 c =
    (omega (arith, reason_in c.args.l, c.reason_field.ensures), c.requires)

pub text_at-requires-3 : goal.text_at-requires-3
text_at-requires-3 c =
    (omega (arith, note_in c.args.l, c.note_field.ensures), c.requires)

pub returns : goal.returns
returns c = let a = c.args in
    let col : List (List ℕ) = column_in (size_of a.l) a.file.now a.spans in
    record_is _ _ _ _ _ _ _ (room_is _ col _ _ 2 2 c.keep-unit.ensures c.text_at.ensures refl)
    (room_is _ col _ _ _ _ c.keep-reason.ensures c.text_at-2.ensures c.reason_field.ensures)
    (room_is _ col _ _ _ _ c.keep-note.ensures c.text_at-3.ensures c.note_field.ensures)
