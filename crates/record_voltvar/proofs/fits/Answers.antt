use Rattle.record_voltvar.specs.Table.{meets}
use Rattle.record_voltvar.proofs.fits.Goals as goal

pub returns : goal.returns
unfolding meets
returns c = rw (c.takes.ensures, c.takes-2.ensures, c.takes-3.ensures, c.takes-4.ensures)
