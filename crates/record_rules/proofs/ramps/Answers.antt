use Rattle.record_rules.proofs.ramps.Goals as goal

pub returns : goal.returns
returns c =
    rw (c.instant_at-tini1.ensures, c.instant_at-tfin1.ensures, c.instant_at-tini2.ensures, c.instant_at-tfin2.ensures)
