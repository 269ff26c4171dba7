use Rattle.book.proofs.Fitting.{unfit_invalid, unfit_layout, unfit_unit, unfit_none, unit_told}
use Rattle.report_brief.specs.Brief.{unit_of}
use Rattle.text.specs.Bytes.{same}
use Rattle.record_check.specs.Validity.{is_valid}
use lib.ListN.{take}
use mathlib.Core.Bool.{true}
use mathlib.Core.Path.{◌≡◌, refl, sym, ap₂, ◌∙◌}
use Rattle.book.proofs.fitness.unfit.Goals as goal

pub returns-then-not-is_valid : goal.returns-then-not-is_valid
returns-then-not-is_valid c =
    (unfit_invalid c.args.right (take c.args.size c.args.unit) c.args.r (sym c.is_valid.ensures ∙ c.if-not-is_valid.true), refl)

pub returns-then-not-right : goal.returns-then-not-right
returns-then-not-right c =
    let is_good : is_valid c.args.r ≡ true = sym c.is_valid.ensures ∙ c.if-not-is_valid.false in
    (unfit_layout c.args.right (take c.args.size c.args.unit) c.args.r is_good c.if-not-right.true, refl)

pub returns-then-not-same : goal.returns-then-not-same
returns-then-not-same c =
    let is_good : is_valid c.args.r ≡ true = sym c.is_valid.ensures ∙ c.if-not-is_valid.false in
    let same_unit : c.same.result ≡ same (unit_of c.args.r) (take c.args.size c.args.unit) = c.same.ensures
    ∙ ap₂ same (c.front.ensures ∙ unit_told c.args.r _ c.of_record-told.ensures) c.front-2.ensures in (
      unfit_unit c.args.right (take c.args.size c.args.unit) c.args.r is_good c.if-not-right.false
          (sym same_unit ∙ c.if-not-same.true),
      refl,
    )

pub returns : goal.returns
returns c =
    let is_good : is_valid c.args.r ≡ true = sym c.is_valid.ensures ∙ c.if-not-is_valid.false in
    let same_unit : c.same.result ≡ same (unit_of c.args.r) (take c.args.size c.args.unit) = c.same.ensures
    ∙ ap₂ same (c.front.ensures ∙ unit_told c.args.r _ c.of_record-told.ensures) c.front-2.ensures in (
      unfit_none c.args.right (take c.args.size c.args.unit) c.args.r is_good c.if-not-right.false
          (sym same_unit ∙ c.if-not-same.false),
      refl,
    )
