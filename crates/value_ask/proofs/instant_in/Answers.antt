use Rattle.value_ask.proofs.instant_in.Goals as goal

pub returns-in-When : goal.returns-in-When
returns-in-When c = rw c.in-When.is c.instant.ensures
