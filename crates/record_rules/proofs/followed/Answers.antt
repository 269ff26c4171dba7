use Rattle.record_rules.proofs.followed.Goals as goal

pub returns : goal.returns
returns c = rw (c.filled.ensures, c.full.ensures)
