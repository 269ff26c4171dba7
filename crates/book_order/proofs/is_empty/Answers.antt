use Rattle.book_order.proofs.Tested.{empty_is}
use borrow.Author.Rules.{rules}
use mir.Syntax.{w32}
use mir.Val.{SFits}
use Rattle.book_order.proofs.is_empty.Goals as goal

pub returns : goal.returns
returns c =
    let first_fits : SFits w32 c.args.o.first = search rules in
    let second_fits : SFits w32 c.args.o.second = search rules in
    empty_is c.args.o first_fits second_fits _ _ c.is_market.ensures c.are_none.ensures
