use Rattle.std.specs.Prelude.{Ok, Err}
use Rattle.reader.proofs.Concluding.{concluded_no, concluded_yes}
use Rattle.reader.proofs.Readings.{placed_of, answers_of}
use Rattle.reader.specs.Readings.{reading_of}
use Rattle.reader.specs.Refusals.{accepted}
use Rattle.reader.specs.Said.{answer_by, reading_by}
use Rattle.refusal.proofs.Some.{not_none, passed}
use mathlib.Core.Path.{◌≡◌, refl, sym, ap, ◌∙◌}
use Rattle.reader.proofs.read.Goals as goal

pub returns-in_err-x : goal.returns-in_err-x
returns-in_err-x c =
    let e = c.in_err-x.field-0.0 in
    let is : reading_by (Err e) ≡ reading_of c.args.ca c.args.ioa c.args.plan.now c.args.file.now = ap reading_by (sym c.in_err-x.was) ∙ c.judged.ensures in
    ap answer_by (passed _ _ c.from_residual.ensures)
    ∙ concluded_no _ (reading_by (Err e)) (not_none e) ∙ answers_of _ _ _ _ (reading_by (Err e)) is

pub record_of-requires : goal.record_of-requires
record_of-requires c =
    let x = c.in_ok-x.x in
    let is : reading_by (Ok x) ≡ reading_of c.args.ca c.args.ioa c.args.plan.now c.args.file.now = ap reading_by (sym c.in_ok-x.was) ∙ c.judged.ensures in
    placed_of _ _ _ _ (reading_by (Ok x)) is refl

pub returns : goal.returns
returns c =
    let x = c.in_ok-x.x in
    let is : reading_by (Ok x) ≡ reading_of c.args.ca c.args.ioa c.args.plan.now c.args.file.now = ap reading_by (sym c.in_ok-x.was) ∙ c.judged.ensures in
    ap accepted c.record_of.ensures ∙ concluded_yes _ (reading_by (Ok x)) refl ∙ answers_of _ _ _ _ (reading_by (Ok x)) is
