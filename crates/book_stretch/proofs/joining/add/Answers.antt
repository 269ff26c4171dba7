use borrow.Author.Rules.{rules}
use native.Mathlib.Numerals.{add-one}
use Rattle.book_stretch.proofs.joining.add.Goals as goal

pub returns : goal.returns
returns c = search (add-one, rules)
