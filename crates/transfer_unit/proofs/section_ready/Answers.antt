use Rattle.transfer_unit.proofs.Ways.{section_is, section_not}
use Rattle.transfer_unit.proofs.section_ready.Goals as goal

pub returns-then-s-octet : goal.returns-then-s-octet
returns-then-s-octet c = section_is _ _ c.octet.ensures c.if-s-octet.true _ _ c.octet-then-s-octet.ensures c.three.ensures

pub returns : goal.returns
returns c = section_not _ _ c.octet.ensures c.if-s-octet.false
