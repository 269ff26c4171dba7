use Rattle.book_stretch.proofs.Four.{four_none}
use borrow.Author.Rules.{rules}
use Rattle.book_stretch.proofs.are_none.Goals as goal

pub returns : goal.returns
returns c = search (four_none, rules)
