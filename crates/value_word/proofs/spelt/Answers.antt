use Rattle.value_word.specs.Words.{room_spelling}
use Rattle.value_word.proofs.spelt.Goals as goal

pub returns : goal.returns
unfolding room_spelling
returns c = rw (c.eight.ensures, c.eight-2.ensures, c.four.ensures)
