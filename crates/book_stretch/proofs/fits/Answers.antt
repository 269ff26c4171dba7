use borrow.Author.Rules.{rules}
use mathlib.Core.Bool.{and_assoc}
use Rattle.book_stretch.proofs.fits.Goals as goal

pub returns : goal.returns
returns c = search (and_assoc, rules)
