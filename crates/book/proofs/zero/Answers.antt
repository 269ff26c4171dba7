use Rattle.book.specs.Places.{zero_book}
use Rattle.book.proofs.zero.Goals as goal

pub returns : goal.returns
unfolding zero_book
returns c = c.make.ensures
