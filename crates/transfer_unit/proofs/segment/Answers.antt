use Rattle.transfer_unit.proofs.Ways.{segment_is, segment_not}
use Rattle.transfer_unit.proofs.segment.Goals as goal

pub returns-then-n-s : goal.returns-then-n-s
returns-then-n-s c = segment_is _ _ c.octet-n.ensures c.if-n-s.true _ c.octet.ensures

pub returns : goal.returns
returns c = segment_not _ _ c.octet-n.ensures c.if-n-s.false
