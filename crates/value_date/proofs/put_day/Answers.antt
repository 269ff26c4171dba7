use Rattle.value_date.proofs.Laws.{day_put}
use Rattle.value_date.proofs.put_day.Goals as goal

pub returns : goal.returns
returns c =
    day_put _ _ _ _ _ _ _ _ c.args.d c.put_digits-a.ensures c.put_marked-b.ensures c.put_marked.ensures
