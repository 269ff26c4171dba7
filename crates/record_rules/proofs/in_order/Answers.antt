use Rattle.record_rules.proofs.in_order.Goals as goal

pub returns : goal.returns
returns c = rw (c.filled.ensures, c.instant_at.ensures, c.instant_at-2.ensures)
