use Rattle.std.specs.Prelude.{Ok, Err}
use Prim.Native.Nat.{◌≤◌}
use Rattle.reader.proofs.Readings.{placed_of}
use Rattle.reader.specs.Readings.{reading_of}
use Rattle.reader.specs.Said.{reading_by}
use Rattle.refusal.proofs.Some.{not_none, passed}
use Rattle.times.specs.Times.{time_by}
use Rattle.record.proofs.Rooms.{unit_in}
use Rattle.times_sheet.proofs.Sheets.{for_good}
use Rattle.times.proofs.Fields.{field_within}
use Rattle.times.proofs.Told.{refused_told, not_market, bad_sheet, in_file_told, in_sheet_told}
use Rattle.value_ask.specs.Values.{is_filled}
use mathlib.Core.Path.{◌≡◌, refl, sym, ap, ◌∙◌}
use native.Mathlib.Omega.{arith}
use Rattle.times.proofs.locate.Goals as goal

pub returns-in_err-x : goal.returns-in_err-x
returns-in_err-x c =
    let e = c.in_err-x.field-0.0 in
    let is : reading_by (Err e) ≡ reading_of c.args.ca c.args.ioa c.args.plan.now c.args.file.now = ap reading_by (sym c.in_err-x.was) ∙ c.judged.ensures in
    ap time_by (passed _ _ c.from_residual.ensures) ∙ refused_told _ _ _ _ _ _ (reading_by (Err e)) is (not_none e)

pub returns-then-not-is_market : goal.returns-then-not-is_market
returns-then-not-is_market c =
    let is : reading_by (Ok c.in_ok-x.x) ≡ reading_of c.args.ca c.args.ioa c.args.plan.now c.args.file.now = ap reading_by (sym c.in_ok-x.was) ∙ c.judged.ensures in
    not_market _ _ _ _ _ _ (reading_by (Ok c.in_ok-x.x)) is refl _ c.is_market.ensures c.if-not-is_market.true

pub text_at-requires : goal.text_at-requires
text_at-requires c =
    let is : reading_by (Ok c.in_ok-x.x) ≡ reading_of c.args.ca c.args.ioa c.args.plan.now c.args.file.now = ap reading_by (sym c.in_ok-x.was) ∙ c.judged.ensures in
    (unit_in c.in_ok-x.x.layout, placed_of _ _ _ _ (reading_by (Ok c.in_ok-x.x)) is refl)

pub returns-then-not-is_for : goal.returns-then-not-is_for
returns-then-not-is_for c =
    let is : reading_by (Ok c.in_ok-x.x) ≡ reading_of c.args.ca c.args.ioa c.args.plan.now c.args.file.now = ap reading_by (sym c.in_ok-x.was) ∙ c.judged.ensures in
    bad_sheet _ _ _ _ _ _ (reading_by (Ok c.in_ok-x.x)) is refl _ c.is_market.ensures _ _ c.text_at.ensures c.is_for.ensures
    c.if-not-is_market.false c.if-not-is_for.true

pub returns-then-is_filled : goal.returns-then-is_filled
returns-then-is_filled c =
    let is : reading_by (Ok c.in_ok-x.x) ≡ reading_of c.args.ca c.args.ioa c.args.plan.now c.args.file.now = ap reading_by (sym c.in_ok-x.was) ∙ c.judged.ensures in
    in_file_told _ _ _ _ _ _ (reading_by (Ok c.in_ok-x.x)) is refl _ c.is_market.ensures _ _ c.text_at.ensures c.is_for.ensures c.if-not-is_market.false _ _ c.field_no-k.ensures
    (c.is_filled.ensures ∙ ap is_filled c.field.ensures) c.if-not-is_for.false c.if-is_filled.true

pub time_part-requires : goal.time_part-requires
time_part-requires c = for_good _ _ (sym c.is_for.ensures ∙ c.if-not-is_for.false)

pub returns : goal.returns
returns c =
    let is : reading_by (Ok c.in_ok-x.x) ≡ reading_of c.args.ca c.args.ioa c.args.plan.now c.args.file.now = ap reading_by (sym c.in_ok-x.was) ∙ c.judged.ensures in
    in_sheet_told _ _ _ _ _ _ (reading_by (Ok c.in_ok-x.x)) is refl _ c.is_market.ensures _ _ c.text_at.ensures c.is_for.ensures c.if-not-is_market.false _ _ c.field_no-k.ensures
    (c.is_filled.ensures ∙ ap is_filled c.field.ensures) c.if-not-is_for.false c.if-is_filled.false _ c.time_part.ensures

pub field-requires : goal.field-requires
field-requires c = field_within c.args.w _ c.field_no-k.ensures
