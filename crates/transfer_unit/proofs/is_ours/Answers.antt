use Rattle.transfer_unit.specs.Units.{is_ours}
use Rattle.transfer_unit.proofs.is_ours.Goals as goal

pub returns : goal.returns
unfolding is_ours
returns c = rw (c.octet.ensures, c.octet-2.ensures, c.octet-3.ensures, c.octet-4.ensures)
