use Rattle.text.specs.Words.{word_of}
use Rattle.value_word.specs.Words.{room_spelling, spelling_of}
use Rattle.value_word.proofs.no_word.Goals as goal

pub returns : goal.returns
unfolding room_spelling spelling_of word_of
returns c = c.spelt.ensures
