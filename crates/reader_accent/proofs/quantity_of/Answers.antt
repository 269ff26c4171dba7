use Rattle.reader_accent.proofs.Table.{is_power, is_extent, no_quantity}
use Rattle.reader_accent.proofs.quantity_of.Goals as goal

pub returns-then-same : goal.returns-then-same
returns-then-same c = is_power _ c.same.ensures c.if-same.true

pub returns-then-same-2 : goal.returns-then-same-2
returns-then-same-2 c =
    is_extent _ c.same.ensures c.if-same.false c.same-2.ensures c.if-same-2.true

pub returns : goal.returns
returns c =
    no_quantity _ c.same.ensures c.if-same.false c.same-2.ensures c.if-same-2.false
