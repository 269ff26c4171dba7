use Rattle.reader.proofs.Placing.{twice, absent, all_there}
use Rattle.reader.proofs.place.Goals as goal

pub returns-then-m-ne0 : goal.returns-then-m-ne0
returns-then-m-ne0 c = twice _ _ c.args.m _ c.if-m-ne0.true

pub returns-then-missing-ne0 : goal.returns-then-missing-ne0
returns-then-missing-ne0 c = absent _ _ c.args.m _ c.if-m-ne0.false _ c.size.ensures c.if-missing-ne0.true

pub returns : goal.returns
returns c = all_there _ _ c.args.m _ c.if-m-ne0.false _ c.size.ensures c.if-missing-ne0.false
