use Rattle.value_fits.specs.Fits.{is_kept}
use Rattle.value_fits.proofs.texts.is_kept.Goals as goal

pub returns : goal.returns
unfolding is_kept
returns c = rw (c.is_tidy.ensures, c.front.ensures)
