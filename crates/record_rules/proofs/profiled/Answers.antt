use Rattle.record_rules.proofs.profiled.Goals as goal

pub returns : goal.returns
returns c =
    rw (c.followed.ensures, c.followed-2.ensures, c.followed-3.ensures, c.followed-4.ensures, c.followed-5.ensures)
