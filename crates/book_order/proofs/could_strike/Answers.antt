use Rattle.book_order.proofs.Tested.{strikes_is}
use borrow.Author.Rules.{rules}
use Rattle.book_order.proofs.could_strike.Goals as goal

pub returns : goal.returns
returns c = search (strikes_is, rules)
