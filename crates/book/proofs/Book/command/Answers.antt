use Rattle.std.specs.Prelude.{Some}
use Rattle.book_order.specs.Orders.{is_brought}
use Rattle.book.proofs.Calls.{call_malformed, command_unfit, plain, command_instants, command_brings, command_holds}
use Rattle.book.specs.Answers.{outcome_by}
use Rattle.book.proofs.Holding.{Holding, holds}
use Rattle.book.proofs.Sizes.{sized}
use Rattle.book.specs.Places.{tally_of}
use Rattle.refusal.proofs.Some.{not_none}
use Rattle.refusal.specs.Results.{number_in}
use borrow.Author.Rules.{rules}
use mathlib.Core.Path.{◌≡◌, sym, ap, ◌∙◌}
use Rattle.book.proofs.Book.command.Goals as goal

pub returns-in_default : goal.returns-in_default
returns-in_default c = ap outcome_by c.hand_back.ensures ∙ call_malformed _ _ _ c.tally.ensures c.in_default.is

pub returns-in-Err : goal.returns-in-Err
returns-in-Err c =
    let holding : Holding c.args.self c.in-Some.count = holds c.args.self _ c.tally.ensures _ (sized c.args.self (search rules) (search rules)) c.in-Some.is in
    ap outcome_by c.hand_back-in-Err.ensures
    ∙ plain _ _ c.in-Err.is c.unfit.ensures.1 c.args.self
    ∙ command_unfit c.args.self _ holding c.args.r _ _ (ap number_in (sym c.in-Err.is) ∙ c.unfit.ensures.0) c.is_command.ensures
    (not_none _)

pub of_record-requires : goal.of_record-requires
of_record-requires c =
    command_instants _ c.args.r _ _ c.unfit.ensures.0 (ap number_in c.in_default-unfit.is) c.is_command.ensures

pub hold_in-requires : goal.hold_in-requires
hold_in-requires c =
    let counted : tally_of c.args.self ≡ Some c.in-Some.count = sym c.tally.ensures ∙ c.in-Some.is in
    let brings = command_brings _ c.args.r _ _ c.unfit.ensures.0 (ap number_in c.in_default-unfit.is) c.is_command.ensures in
    (counted, ap is_brought c.of_record.ensures ∙ brings)

pub returns : goal.returns
returns c =
    let holding : Holding c.args.self c.in-Some.count = holds c.args.self _ c.tally.ensures _ (sized c.args.self (search rules) (search rules)) c.in-Some.is in
    c.hold_in.ensures
    ∙ command_holds c.args.self _ holding c.args.r _ _ c.unfit.ensures.0 c.is_command.ensures (ap number_in c.in_default-unfit.is) _
    c.of_record.ensures
