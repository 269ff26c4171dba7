use Rattle.plan_row.proofs.Addresses.{none_above}
use Rattle.plan_row.proofs.stands.Goals as goal

-- Above all, or searched for.
pub returns-then-greatest-key : goal.returns-then-greatest-key
returns-then-greatest-key c = none_above _ _ _ c.requires c.if-greatest-key.true
