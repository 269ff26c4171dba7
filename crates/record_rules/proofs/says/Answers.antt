use Rattle.record_rules.proofs.says.Goals as goal

pub returns : goal.returns
returns c = rw c.word_number.ensures
