use Rattle.transfer_unit.proofs.Ways.{octet_none, octet_some}
use Rattle.transfer_unit.proofs.octet.Goals as goal

pub returns-then-s-k : goal.returns-then-s-k
returns-then-s-k c = octet_none c.args.s.now _ c.if-s-k.true

pub returns : goal.returns
returns c = octet_some c.args.s.now _ c.if-k-eq0.false
