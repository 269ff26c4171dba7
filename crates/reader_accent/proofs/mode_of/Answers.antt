use Rattle.reader_accent.proofs.Table.{is_mode, no_mode}
use Rattle.reader_accent.proofs.mode_of.Goals as goal

-- VQ's one label.
pub returns-then-same : goal.returns-then-same
returns-then-same c = is_mode _ c.same.ensures c.if-same.true

pub returns : goal.returns
returns c = no_mode _ c.same.ensures c.if-same.false
