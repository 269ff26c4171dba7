use Rattle.saved.proofs.Valued.{order_is}
use borrow.Author.Rules.{rules}
use Rattle.saved.proofs.orders.order_of.Goals as goal

pub returns : goal.returns
returns c = search (order_is, rules)
