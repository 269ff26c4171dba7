use Rattle.value_date.proofs.Laws.{letter_put}
use Rattle.value_date.proofs.put_letter.Goals as goal

pub returns : goal.returns
returns c =
    letter_put _ _ _ _ _ _ _ _ c.put_byte-from.ensures c.letter_of.ensures c.put_byte.ensures
