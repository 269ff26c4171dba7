use Rattle.saved.proofs.Valued.{other_kind}
use Rattle.saved.proofs.orders.layout_of.Goals as goal

pub returns : goal.returns
returns c = other_kind _ c.if-kind-eq0.false
