use Rattle.value_word.proofs.Volts.{is_vmax, is_vmin, is_spaced}
use Rattle.value_word.proofs.read_volt.Goals as goal

pub returns-then-same : goal.returns-then-same
returns-then-same c = is_vmax _ c.same.ensures c.if-same.true

pub returns-then-same-2 : goal.returns-then-same-2
returns-then-same-2 c =
    is_vmin _ c.same.ensures c.if-same.false c.same-2.ensures c.if-same-2.true

pub returns : goal.returns
returns c =
    is_spaced _ c.same.ensures c.if-same.false c.same-2.ensures c.if-same-2.false _ c.read.ensures
