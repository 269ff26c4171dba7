use Rattle.book.specs.declared.Book.{Book}
use Rattle.saved.specs.Saved.{book_by}
use mathlib.Core.Path.{sym, ap, ◌∙◌}
use Rattle.saved.proofs.read.Goals as goal

pub returns-in-Ok : goal.returns-in-Ok
returns-in-Ok c = ap book_by (sym c.in-Ok.is) ∙ c.read_book.ensures

pub returns-in-Err : goal.returns-in-Err
returns-in-Err c =
    ap (λ (b : Book). record { number = 50; detail = c.in-Err.line; book = b }) c.zero.ensures ∙ ap book_by (sym c.in-Err.is) ∙ c.read_book.ensures
