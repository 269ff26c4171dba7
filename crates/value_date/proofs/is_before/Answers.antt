use Rattle.value_date.proofs.is_before.Goals as goal

pub returns : goal.returns
returns c = rw (c.instant.ensures, c.instant-2.ensures)
