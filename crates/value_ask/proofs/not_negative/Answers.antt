use Rattle.value_ask.proofs.not_negative.Goals as goal

pub returns-in-List : goal.returns-in-List
returns-in-List c = rw c.in-List.is c.none_below.ensures
