use Rattle.value_date.proofs.Laws.{mark_put}
use Rattle.value_date.proofs.put_marked.Goals as goal

pub returns : goal.returns
returns c =
    let a = c.args in
    mark_put a.out.now _ _ _ _ a.mark _ _ _ c.put_byte-from.ensures c.put_digits.ensures
