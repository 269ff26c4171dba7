use Rattle.value_date.proofs.Laws.{date_put}
use Rattle.value_date.proofs.put.Goals as goal

pub returns : goal.returns
returns c =
    date_put _ _ _ _ _ _ _ _ c.args.d c.put_day-a.ensures c.put_time-b.ensures c.put_letter.ensures
