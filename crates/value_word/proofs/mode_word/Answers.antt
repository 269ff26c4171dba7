use Rattle.text.specs.Words.{word_of}
use Rattle.value_word.proofs.Arms.{arm, no_arm_in}
use Rattle.value_word.specs.Words.{mode_words, room_spelling, spelling_of}
use Rattle.value_word.proofs.mode_word.Goals as goal

pub returns-in-0 : goal.returns-in-0
unfolding mode_words room_spelling spelling_of word_of
returns-in-0 c = arm mode_words c.in-0.is c.spelt.ensures

pub returns-in-1 : goal.returns-in-1
unfolding mode_words room_spelling spelling_of word_of
returns-in-1 c = arm mode_words c.in-1.is c.spelt-in-1.ensures

pub returns-in-2 : goal.returns-in-2
unfolding mode_words room_spelling spelling_of word_of
returns-in-2 c = arm mode_words c.in-2.is c.spelt-in-2.ensures

pub returns-in-3 : goal.returns-in-3
unfolding mode_words room_spelling spelling_of word_of
returns-in-3 c = arm mode_words c.in-3.is c.spelt-in-3.ensures

pub returns-in-4 : goal.returns-in-4
unfolding mode_words room_spelling spelling_of word_of
returns-in-4 c = arm mode_words c.in-4.is c.spelt-in-4.ensures

pub returns-in-5 : goal.returns-in-5
unfolding mode_words room_spelling spelling_of word_of
returns-in-5 c = arm mode_words c.in-5.is c.spelt-in-5.ensures

pub returns-in-6 : goal.returns-in-6
unfolding mode_words room_spelling spelling_of word_of
returns-in-6 c = arm mode_words c.in-6.is c.spelt-in-6.ensures

pub returns-in-7 : goal.returns-in-7
unfolding mode_words room_spelling spelling_of word_of
returns-in-7 c = arm mode_words c.in-7.is c.spelt-in-7.ensures

pub returns-in-8 : goal.returns-in-8
unfolding mode_words room_spelling spelling_of word_of
returns-in-8 c = arm mode_words c.in-8.is c.spelt-in-8.ensures

pub returns-in-9 : goal.returns-in-9
unfolding mode_words room_spelling spelling_of word_of
returns-in-9 c = arm mode_words c.in-9.is c.spelt-in-9.ensures

pub returns-in_default : goal.returns-in_default
unfolding mode_words
returns-in_default c = no_arm_in mode_words c.args.k c.in_default.in_default-own.rest c.no_word.ensures
