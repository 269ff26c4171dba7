use Rattle.std.specs.Prelude.{Some}
use Rattle.book.proofs.Calls.{call_malformed, revoke_unfit, plain, revocation_instants, revocation_names, could_be, revoke_strikes}
use Rattle.book.specs.Answers.{outcome_by}
use Rattle.book.proofs.Holding.{Holding, holds}
use Rattle.book.proofs.Sizes.{sized}
use Rattle.book.specs.Places.{tally_of}
use Rattle.refusal.proofs.Some.{not_none}
use Rattle.refusal.specs.Results.{number_in}
use borrow.Author.Rules.{rules}
use mathlib.Core.Path.{◌≡◌, sym, ap, ◌∙◌}
use Rattle.book.proofs.Book.revoke.Goals as goal

pub returns-in_default : goal.returns-in_default
returns-in_default c = ap outcome_by c.hand_back.ensures ∙ call_malformed _ _ _ c.tally.ensures c.in_default.is

pub returns-in-Err : goal.returns-in-Err
returns-in-Err c =
    let holding : Holding c.args.self c.in-Some.count = holds c.args.self _ c.tally.ensures _ (sized c.args.self (search rules) (search rules)) c.in-Some.is in
    ap outcome_by c.hand_back-in-Err.ensures
    ∙ plain _ _ c.in-Err.is c.unfit.ensures.1 c.args.self
    ∙ revoke_unfit c.args.self _ holding c.args.r _ _ (ap number_in (sym c.in-Err.is) ∙ c.unfit.ensures.0) c.is_revocation.ensures
    (not_none _)

pub struck_by-requires : goal.struck_by-requires
struck_by-requires c =
    revocation_instants _ c.args.r _ _ c.unfit.ensures.0 (ap number_in c.in_default-unfit.is) c.is_revocation.ensures

pub strike_in-requires : goal.strike_in-requires
strike_in-requires c =
    let counted : tally_of c.args.self ≡ Some c.in-Some.count = sym c.tally.ensures ∙ c.in-Some.is in
    let names = revocation_names _ c.args.r _ _ c.unfit.ensures.0 (ap number_in c.in_default-unfit.is) c.is_revocation.ensures in
    (counted, could_be _ _ _ c.named_by.ensures c.struck_by.ensures names)

pub returns : goal.returns
returns c =
    let holding : Holding c.args.self c.in-Some.count = holds c.args.self _ c.tally.ensures _ (sized c.args.self (search rules) (search rules)) c.in-Some.is in
    c.strike_in.ensures
    ∙ revoke_strikes c.args.self _ holding c.args.r _ _ c.unfit.ensures.0 c.is_revocation.ensures (ap number_in c.in_default-unfit.is)
    _ _ c.named_by.ensures c.struck_by.ensures
