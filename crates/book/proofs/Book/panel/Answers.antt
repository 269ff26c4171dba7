use Rattle.book.proofs.Calls.{panel_malformed, panel_shows}
use Rattle.book.proofs.Holding.{holds}
use Rattle.book.proofs.Sizes.{sized}
use Rattle.book.specs.Answers.{shown_by}
use borrow.Author.Rules.{rules}
use mathlib.Core.Path.{ap, ◌∙◌}
use Rattle.book.proofs.Book.panel.Goals as goal

pub returns-in_default : goal.returns-in_default
returns-in_default c = ap shown_by c.hand_back.ensures ∙ panel_malformed _ _ c.tally.ensures c.in_default.is

pub returns : goal.returns
returns c =
    ap shown_by c.hand_back-2.ensures ∙ panel_shows c.args.self _ (holds c.args.self _ c.tally.ensures _ (sized c.args.self (search rules) (search rules)) c.in-Some.is)
