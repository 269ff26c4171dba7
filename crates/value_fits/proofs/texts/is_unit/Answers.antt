use Rattle.value_fits.specs.Fits.{is_named}
use Rattle.value_fits.proofs.texts.is_unit.Goals as goal

pub returns : goal.returns
unfolding is_named
returns c = rw (c.is_unit.ensures, c.front.ensures)
