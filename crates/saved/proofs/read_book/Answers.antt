use Rattle.std.proofs.lemmas.Result.{err_from_is_err_and}
use Rattle.std.specs.Prelude.{ℕ, Err}
use Rattle.saved.proofs.Opening.{opened, no_book, book_below}
use Rattle.saved.specs.Saved.{head_by, book_by}
use mathlib.Core.Path.{refl, sym, ap, ◌∙◌}
use Rattle.saved.proofs.read_book.Goals as goal

-- The book of a text is the one that is read below its head; without a head there is none.
pub returns-in_err-h : goal.returns-in_err-h
returns-in_err-h c =
    let p = err_from_is_err_and c.from_residual.result c.from_residual.ensures.1 in
    ap book_by p.1 ∙ ap (λ (k : ℕ). book_by (Err k)) p.2 ∙ no_book _ _ (ap head_by (sym c.in_err-h.was) ∙ c.read_head.ensures) refl

pub read_below-requires : goal.read_below-requires
read_below-requires c = (opened _ _ (ap head_by (sym c.in_ok-h.was) ∙ c.read_head.ensures) refl).asked

pub returns : goal.returns
returns c = c.read_below.ensures ∙ book_below _ _ (ap head_by (sym c.in_ok-h.was) ∙ c.read_head.ensures) refl
