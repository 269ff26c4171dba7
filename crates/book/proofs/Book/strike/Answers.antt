use Rattle.std.specs.Prelude.{Some}
use Rattle.book.proofs.Calls.{undone_malformed}
use Rattle.book.proofs.Formed.{deed_invalid}
use Rattle.book.specs.Answers.{outcome_by}
use Rattle.book.proofs.Holding.{Holding, holds}
use Rattle.book.proofs.Sizes.{sized}
use Rattle.book.specs.Places.{tally_of}
use borrow.Author.Rules.{rules}
use mathlib.Core.Path.{◌≡◌, sym, ap, ◌∙◌}
use Rattle.book.proofs.Book.strike.Goals as goal

pub returns-in_default : goal.returns-in_default
returns-in_default c = ap outcome_by c.hand_back.ensures ∙ undone_malformed _ _ _ c.tally.ensures c.in_default.is

pub returns-then-not-could_strike : goal.returns-then-not-could_strike
returns-then-not-could_strike c =
    let holding : Holding c.args.self c.in-Some.count = holds c.args.self _ c.tally.ensures _ (sized c.args.self (search rules) (search rules)) c.in-Some.is in
    ap outcome_by c.hand_back-then-not-could_strike.ensures
    ∙ deed_invalid _ _ holding.formed (sym c.could_strike.ensures ∙ c.if-not-could_strike.true)

pub strike_in-requires : goal.strike_in-requires
strike_in-requires c =
    let counted : tally_of c.args.self ≡ Some c.in-Some.count = sym c.tally.ensures ∙ c.in-Some.is in
    (counted, sym c.could_strike.ensures ∙ c.if-not-could_strike.false)

pub returns : goal.returns
returns c = c.strike_in.ensures
