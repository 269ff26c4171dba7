use Rattle.value_date.proofs.Laws.{time_put}
use Rattle.value_date.proofs.put_time.Goals as goal

pub returns : goal.returns
returns c =
    time_put _ _ _ _ _ _ _ _ c.args.d c.put_marked-a.ensures c.put_marked-b.ensures c.put_marked.ensures
