use Rattle.record_rules.proofs.full.Goals as goal

pub returns : goal.returns
returns c = rw c.list_size.ensures
