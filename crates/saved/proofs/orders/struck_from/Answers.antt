use Rattle.saved.proofs.Struck.{all_struck, none_struck}
use borrow.Author.Rules.{rules}
use Rattle.saved.proofs.orders.struck_from.Goals as goal

pub returns-then-k-eq1 : goal.returns-then-k-eq1
returns-then-k-eq1 c = search (all_struck, rules)

pub returns-else-k-eq1 : goal.returns-else-k-eq1
returns-else-k-eq1 c = search (none_struck, rules)
