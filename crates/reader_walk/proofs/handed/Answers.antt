use Rattle.reader_walk.proofs.handed.Goals as goal

pub returns-then-stopped : goal.returns-then-stopped
returns-then-stopped c = rw c.if-stopped.true

pub returns : goal.returns
returns c = rw c.if-stopped.false
