use Rattle.book_order.proofs.Tested.{hold_not, hold_is}
use borrow.Author.Rules.{rules}
use Rattle.book_order.proofs.could_hold.Goals as goal

pub returns-then-not-could_come : goal.returns-then-not-could_come
returns-then-not-could_come c = search (hold_not, rules)

pub returns : goal.returns
returns c = search (hold_is, rules)
