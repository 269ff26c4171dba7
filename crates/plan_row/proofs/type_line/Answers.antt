use Rattle.plan_row.proofs.Codes.{type_key, type_short, type_open, type_line}
use Rattle.plan_row.proofs.type_line.Goals as goal

pub returns-then-not-starts : goal.returns-then-not-starts
returns-then-not-starts c = type_key _ _ c.starts.ensures c.if-not-starts.true

pub returns-then-s-lt8 : goal.returns-then-s-lt8
returns-then-s-lt8 c = type_short _ _ c.starts.ensures c.if-not-starts.false c.if-s-lt8.true

pub returns-then-s-ne10 : goal.returns-then-s-ne10
returns-then-s-ne10 c = type_open _ _ c.starts.ensures c.if-not-starts.false c.if-s-ne10.true

pub returns : goal.returns
returns c =
    type_line _ _ c.starts.ensures c.if-not-starts.false c.if-s-lt8.false c.if-s-ne10.false _ c.type_of.ensures
