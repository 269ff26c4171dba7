use Rattle.std.specs.Prelude.{Result, Ok, Err}
use Prim.Native.Nat.{ℕ, ◌≤◌, ◌<◌}
use Rattle.report_brief.proofs.Fields.{end_within}
use Rattle.report_brief.specs.Brief.{brief_of}
use Rattle.gateway.proofs.Told.{small_refusal, refused_told, body, told_as, few_told, written_told}
use Rattle.gateway.specs.Entry.{code_by}
use Rattle.reader.proofs.Readings.{placed_of}
use Rattle.reader.specs.Readings.{reading_of}
use Rattle.reader.specs.Said.{reading_by}
use Rattle.record.proofs.Rooms.{unit_in}
use Rattle.refusal.proofs.Some.{not_none, passed}
use Rattle.refusal.specs.declared.Refusal.{Refusal}
use borrow.Author.Rules.{rules}
use mathlib.Core.Path.{◌≡◌, refl, sym, ap, ◌∙◌, subst}
use native.Mathlib.Omega.{arith}
use Rattle.gateway.proofs.write_lines.Goals as goal

pub returns-in_err-x-clause-told : goal.returns-in_err-x-clause-told
returns-in_err-x-clause-told c =
    let is : reading_by (Err c.in_err-x.field-0.0) ≡ reading_of c.args.ca c.args.ioa c.args.plan.now c.args.file.now =
    ap reading_by (sym c.in_err-x.was) ∙ c.judged.ensures in
    rw (passed _ _ c.from_residual.ensures) (refused_told _ _ _ _ (reading_by (Err c.in_err-x.field-0.0)) is (not_none c.in_err-x.field-0.0) _)

pub returns-in_err-x-clause-small : goal.returns-in_err-x-clause-small
returns-in_err-x-clause-small c =
    let is : reading_by (Err c.in_err-x.field-0.0) ≡ reading_of c.args.ca c.args.ioa c.args.plan.now c.args.file.now =
    ap reading_by (sym c.in_err-x.was) ∙ c.judged.ensures in
    let q = small_refusal _ _ _ _ (reading_by (Err c.in_err-x.field-0.0)) is (not_none c.in_err-x.field-0.0) in
    subst (λ (z : Result ℕ Refusal). code_by z < 4294967296) (sym (passed _ _ c.from_residual.ensures)) (omega (arith, q.0, q.1))

pub text_at-requires : goal.text_at-requires
text_at-requires c =
    let is : reading_by (Ok c.in_ok-x.x) ≡ reading_of c.args.ca c.args.ioa c.args.plan.now c.args.file.now = ap reading_by (sym c.in_ok-x.was) ∙ c.judged.ensures in
    (unit_in c.in_ok-x.x.layout, placed_of _ _ _ _ (reading_by (Ok c.in_ok-x.x)) is refl)

pub overflow_sub-end_field : goal.overflow_sub-end_field
overflow_sub-end_field c = (end_within c.in_ok-x.x.layout _ c.end_field.ensures).0

pub offset_bounds-x-end_field : goal.offset_bounds-x-end_field
offset_bounds-x-end_field c = let q = end_within c.in_ok-x.x.layout _ c.end_field.ensures in search rules

pub bounds-x-end_field : goal.bounds-x-end_field
bounds-x-end_field c = let q = end_within c.in_ok-x.x.layout _ c.end_field.ensures in omega (arith, q.0, q.1)

pub returns-clause-told : goal.returns-clause-told
returns-clause-told c =
    let is : reading_by (Ok c.in_ok-x.x) ≡ reading_of c.args.ca c.args.ioa c.args.plan.now c.args.file.now = ap reading_by (sym c.in_ok-x.was) ∙ c.judged.ensures in
    let told : c.of_reading-told.result ≡ brief_of (body _ _ _ _ (reading_by (Ok c.in_ok-x.x)) is) =
    told_as _ _ _ _ (reading_by (Ok c.in_ok-x.x)) is _ _ _ _ c.text_at.ensures c.keep.ensures c.end_field.ensures c.of_reading-told.ensures
    in
    written_told _ _ _ _ (reading_by (Ok c.in_ok-x.x)) is _ told _ _ _ c.write_lines.ensures refl

pub returns-clause-small : goal.returns-clause-small
returns-clause-small c =
    let is : reading_by (Ok c.in_ok-x.x) ≡ reading_of c.args.ca c.args.ioa c.args.plan.now c.args.file.now = ap reading_by (sym c.in_ok-x.was) ∙ c.judged.ensures in
    let told : c.of_reading-told.result ≡ brief_of (body _ _ _ _ (reading_by (Ok c.in_ok-x.x)) is) =
    told_as _ _ _ _ (reading_by (Ok c.in_ok-x.x)) is _ _ _ _ c.text_at.ensures c.keep.ensures c.end_field.ensures c.of_reading-told.ensures
    in
    few_told _ _ _ _ (reading_by (Ok c.in_ok-x.x)) is _ told _ _ _ c.write_lines.ensures
