use Rattle.transfer_unit.proofs.Ways.{file_is, file_not}
use Rattle.transfer_unit.proofs.file_ready.Goals as goal

pub returns-then-s-octet : goal.returns-then-s-octet
returns-then-s-octet c = file_is _ _ c.octet.ensures c.if-s-octet.true _ c.three.ensures

pub returns : goal.returns
returns c = file_not _ _ c.octet.ensures c.if-s-octet.false
