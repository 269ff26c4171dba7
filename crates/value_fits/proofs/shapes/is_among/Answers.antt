use Rattle.value_fits.specs.Fits.{is_among}
use Rattle.value_fits.proofs.shapes.is_among.Goals as goal

pub returns : goal.returns
unfolding is_among
returns c = rw (c.first_word-first.ensures, c.last_word-last.ensures)
