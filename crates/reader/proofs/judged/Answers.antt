use Rattle.std.specs.Prelude.{Ok, Err}
use Rattle.reader.proofs.Concluding.{not_located}
use Rattle.reader.proofs.Going.{value_refused, refused_last, all_read}
use Rattle.reader.specs.Said.{located_by, reading_by, verdict_by}
use Rattle.reader.specs.State.{Locates, column_at}
use Rattle.reader_fill.specs.Filled.{triples_of}
use Rattle.refusal.proofs.Some.{not_none, passed}
use Rattle.value_list.specs.Forms.{kept_triples}
use mathlib.Core.Path.{◌≡◌, refl, sym, ap, ◌∙◌}
use Rattle.reader.proofs.judged.Goals as goal

pub returns-in_err-x : goal.returns-in_err-x
returns-in_err-x c = not_located _ _ _ _ _ c.locate.ensures _ c.in_err-x.was (passed _ _ c.from_residual.ensures)

pub returns-in_err-fill : goal.returns-in_err-fill
unfolding triples_of
returns-in_err-fill c =
    let x = c.in_ok-x.x in
    let h : Locates c.args.ca c.args.ioa c.args.plan.now c.args.file.now (located_by (Ok x)) = rw c.in_ok-x.was at c.locate.ensures in
    let gs : c.kept.result ≡ triples_of x.layout (column_at x.layout c.args.file.now x.places) =
    c.kept.ensures ∙ ap kept_triples c.gradients_of-gradients.ensures
    in
    ap reading_by (passed _ _ c.from_residual-in_err-fill.ensures)
    ∙ value_refused _ _ _ _ (located_by (Ok x)) h refl _ _ gs c.fill.ensures.filled _ (sym c.in_err-fill.was ∙ c.fill.ensures.first_bad)

pub returns-in_err-judge : goal.returns-in_err-judge
unfolding triples_of
returns-in_err-judge c =
    let x = c.in_ok-x.x in
    let h : Locates c.args.ca c.args.ioa c.args.plan.now c.args.file.now (located_by (Ok x)) = rw c.in_ok-x.was at c.locate.ensures in
    let gs : c.kept.result ≡ triples_of x.layout (column_at x.layout c.args.file.now x.places) =
    c.kept.ensures ∙ ap kept_triples c.gradients_of-gradients.ensures
    in
    ap reading_by (passed _ _ c.from_residual-in_err-judge.ensures)
    ∙ refused_last _ _ _ _ (located_by (Ok x)) h refl _ _ gs c.fill.ensures.filled (sym c.in_ok-fill.was ∙ c.fill.ensures.first_bad) _
    c.lowest_of-broken.ensures (verdict_by (Err c.in_err-judge.field-0.0)) (ap verdict_by (sym c.in_err-judge.was) ∙ c.judge.ensures)
    (not_none c.in_err-judge.field-0.0)

pub returns : goal.returns
unfolding triples_of
returns c =
    let x = c.in_ok-x.x in
    let h : Locates c.args.ca c.args.ioa c.args.plan.now c.args.file.now (located_by (Ok x)) = rw c.in_ok-x.was at c.locate.ensures in
    let gs : c.kept.result ≡ triples_of x.layout (column_at x.layout c.args.file.now x.places) =
    c.kept.ensures ∙ ap kept_triples c.gradients_of-gradients.ensures
    in
    all_read _ _ _ _ (located_by (Ok x)) h refl _ _ gs c.fill.ensures.filled (sym c.in_ok-fill.was ∙ c.fill.ensures.first_bad) _
    c.lowest_of-broken.ensures (verdict_by (Ok c.in_ok-judge.field-0)) (ap verdict_by (sym c.in_ok-judge.was) ∙ c.judge.ensures) refl refl
