use Rattle.book.proofs.Calls.{ascends, question_malformed, question_early, question_done}
use Rattle.book.proofs.Holding.{Holding, holds}
use Rattle.book.proofs.Sizes.{sized}
use Rattle.book.specs.Answers.{asked_by}
use borrow.Author.Rules.{rules}
use mathlib.Core.Path.{ap, ◌∙◌}
use Rattle.book.proofs.Book.in_force.Goals as goal

pub returns-in_default : goal.returns-in_default
returns-in_default c = ap asked_by c.hand_back.ensures ∙ question_malformed _ _ _ c.tally.ensures c.in_default.is

pub returns-then-t-self : goal.returns-then-t-self
returns-then-t-self c =
    let holding : Holding c.args.self c.in-Some.count = holds c.args.self _ c.tally.ensures _ (sized c.args.self (search rules) (search rules)) c.in-Some.is in
    ap asked_by c.hand_back-then-t-self.ensures ∙ question_early c.args.self _ holding _ c.if-t-self.true

pub in_force_in-requires : goal.in_force_in-requires
in_force_in-requires c =
    let holding : Holding c.args.self c.in-Some.count = holds c.args.self _ c.tally.ensures _ (sized c.args.self (search rules) (search rules)) c.in-Some.is in
    (holding.few, ascends c.args.self _ holding)

pub returns : goal.returns
returns c =
    let holding : Holding c.args.self c.in-Some.count = holds c.args.self _ c.tally.ensures _ (sized c.args.self (search rules) (search rules)) c.in-Some.is in
    ap asked_by c.hand_back-2.ensures ∙ question_done c.args.self _ holding _ c.if-t-self.false _ c.in_force_in.ensures
