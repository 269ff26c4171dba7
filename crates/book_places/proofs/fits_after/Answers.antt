use Rattle.book_places.proofs.Leading.{fits_is}
use Rattle.book_places.proofs.fits_after.Goals as goal

pub returns : goal.returns
returns c = let a = c.args in fits_is a.floor a.least a.o _ c.could_hold.ensures
