use Rattle.value_number.proofs.is_of_number.Goals as goal

pub returns : goal.returns
returns c = rw c.is_digit.ensures
