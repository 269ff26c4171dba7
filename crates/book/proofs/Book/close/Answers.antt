use Rattle.book.proofs.Calls.{call_malformed, close_early, close_done}
use Rattle.book.specs.Answers.{outcome_by}
use Rattle.book.proofs.Holding.{Holding, holds}
use Rattle.book.proofs.Sizes.{sized}
use borrow.Author.Rules.{rules}
use mathlib.Core.Path.{ap, ◌∙◌}
use Rattle.book.proofs.Book.close.Goals as goal

pub returns-in_default : goal.returns-in_default
returns-in_default c = ap outcome_by c.hand_back.ensures ∙ call_malformed _ _ _ c.tally.ensures c.in_default.is

pub returns-then-t-self : goal.returns-then-t-self
returns-then-t-self c =
    let holding : Holding c.args.self c.in-Some.count = holds c.args.self _ c.tally.ensures _ (sized c.args.self (search rules) (search rules)) c.in-Some.is in
    ap outcome_by c.hand_back-then-t-self.ensures ∙ close_early c.args.self _ holding _ c.if-t-self.true

pub keep_past-kept-requires : goal.keep_past-kept-requires
keep_past-kept-requires c =
    let holding : Holding c.args.self c.in-Some.count = holds c.args.self _ c.tally.ensures _ (sized c.args.self (search rules) (search rules)) c.in-Some.is in
    holding.few

pub returns : goal.returns
returns c =
    let holding : Holding c.args.self c.in-Some.count = holds c.args.self _ c.tally.ensures _ (sized c.args.self (search rules) (search rules)) c.in-Some.is in
    ap outcome_by c.hand_back-2.ensures
    ∙ close_done c.args.self _ holding _ c.if-t-self.false _ c.keep_past-kept.ensures _ c.next_end-next.ensures _ c.made.ensures
