use Rattle.saved.proofs.Valued.{kind_other}
use borrow.Enum.Refused.{opened}
use Rattle.saved.proofs.orders.kind_of.Goals as goal

pub returns-in-Mfrr : goal.returns-in-Mfrr
returns-in-Mfrr c = rw c.in-Mfrr.is

pub returns-in_default : goal.returns-in_default
returns-in_default c = kind_other c.args.l (opened c.in_default.in_default-own.keys2)
