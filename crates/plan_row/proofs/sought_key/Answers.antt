use Rattle.plan_row.proofs.Addresses.{sought_near, sought_far}
use Rattle.plan_row.proofs.sought_key.Goals as goal

-- No plan can have the address, or its number.
pub returns-then-ioa-gt16777215 : goal.returns-then-ioa-gt16777215
returns-then-ioa-gt16777215 c = sought_far _ _ c.if-ioa-gt16777215.true

pub returns : goal.returns
returns c = sought_near _ _ _ c.if-ioa-gt16777215.false c.key_of.ensures
