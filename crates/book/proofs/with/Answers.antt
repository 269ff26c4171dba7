use Rattle.book.proofs.Fitting.{from_parts}
use borrow.Author.Rules.{rules}
use Rattle.book.proofs.with.Goals as goal

pub returns : goal.returns
returns c = search (from_parts, rules)
