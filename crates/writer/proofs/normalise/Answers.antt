use Rattle.std.specs.Prelude.{Ok, Err}
use Rattle.reader.proofs.Readings.{placed_of}
use Rattle.reader.specs.Readings.{reading_of}
use Rattle.reader.specs.Said.{reading_by}
use Rattle.refusal.proofs.Some.{not_none, passed}
use Rattle.record.proofs.Rooms.{unit_in, reason_in, note_in}
use Rattle.writer.proofs.Copied.{copies, copied_end}
use Rattle.writer.proofs.Normal.{refused_end, taken_held, taken_end}
use mathlib.Core.Path.{◌≡◌, refl, sym, ap, ◌∙◌}
use native.Mathlib.Omega.{arith}
use Rattle.writer.proofs.normalise.Goals as goal

pub returns-in_err-x : goal.returns-in_err-x
returns-in_err-x c =
    let is : reading_by (Err c.in_err-x.field-0.0) ≡ reading_of _ _ _ _ = ap reading_by (sym c.in_err-x.was) ∙ c.judged.ensures in
    rw (passed _ _ c.from_residual.ensures) (refused_end _ _ _ _ (reading_by (Err c.in_err-x.field-0.0)) is _ (not_none c.in_err-x.field-0.0))

pub stands_written-requires : goal.stands_written-requires
stands_written-requires c =
    let is : reading_by (Ok c.in_ok-x.x) ≡ reading_of _ _ _ _ = ap reading_by (sym c.in_ok-x.was) ∙ c.judged.ensures in
    placed_of _ _ _ _ (reading_by (Ok c.in_ok-x.x)) is refl

pub put_copied-requires : goal.put_copied-requires
put_copied-requires c =
    let is : reading_by (Ok c.in_ok-x.x) ≡ reading_of _ _ _ _ = ap reading_by (sym c.in_ok-x.was) ∙ c.judged.ensures in
    copies _ _ _ _ (reading_by (Ok c.in_ok-x.x)) is refl (sym c.stands_written.ensures ∙ c.if-stands_written.true)

pub returns-then-stands_written : goal.returns-then-stands_written
returns-then-stands_written c =
    let is : reading_by (Ok c.in_ok-x.x) ≡ reading_of _ _ _ _ = ap reading_by (sym c.in_ok-x.was) ∙ c.judged.ensures in
    copied_end _ _ _ _ (reading_by (Ok c.in_ok-x.x)) is refl (sym c.stands_written.ensures ∙ c.if-stands_written.true) _ _ _ c.put_copied.ensures

pub text_at-requires : goal.text_at-requires
text_at-requires c =
    let is : reading_by (Ok c.in_ok-x.x) ≡ reading_of _ _ _ _ = ap reading_by (sym c.in_ok-x.was) ∙ c.judged.ensures in
    (unit_in c.in_ok-x.x.layout, placed_of _ _ _ _ (reading_by (Ok c.in_ok-x.x)) is refl)

pub text_at-requires-2 : goal.text_at-requires-2
text_at-requires-2 c =
    let is : reading_by (Ok c.in_ok-x.x) ≡ reading_of _ _ _ _ = ap reading_by (sym c.in_ok-x.was) ∙ c.judged.ensures in
    (omega (arith, reason_in c.in_ok-x.x.layout, c.reason_field.ensures), placed_of _ _ _ _ (reading_by (Ok c.in_ok-x.x)) is refl)

pub text_at-requires-3 : goal.text_at-requires-3
text_at-requires-3 c =
    let is : reading_by (Ok c.in_ok-x.x) ≡ reading_of _ _ _ _ = ap reading_by (sym c.in_ok-x.was) ∙ c.judged.ensures in
    (omega (arith, note_in c.in_ok-x.x.layout, c.note_field.ensures), placed_of _ _ _ _ (reading_by (Ok c.in_ok-x.x)) is refl)

pub put_file-requires : goal.put_file-requires
put_file-requires c =
    let is : reading_by (Ok c.in_ok-x.x) ≡ reading_of _ _ _ _ = ap reading_by (sym c.in_ok-x.was) ∙ c.judged.ensures in
    taken_held _ _ _ _ (reading_by (Ok c.in_ok-x.x)) is refl _ _ _ _ _
    c.text_at.ensures c.reason_field.ensures c.text_at-2.ensures c.note_field.ensures c.text_at-3.ensures

pub returns : goal.returns
returns c =
    let is : reading_by (Ok c.in_ok-x.x) ≡ reading_of _ _ _ _ = ap reading_by (sym c.in_ok-x.was) ∙ c.judged.ensures in
    taken_end _ _ _ _ (reading_by (Ok c.in_ok-x.x)) is refl _ _ _ _ _
    c.text_at.ensures c.reason_field.ensures c.text_at-2.ensures c.note_field.ensures c.text_at-3.ensures
    _ _ _ c.put_file.ensures
