use Rattle.record_voltvar.proofs.Steps.{form_blank, form_number, form_word}
use mathlib.Core.Bool.{not}
use mathlib.Core.Path.{ap}
use Rattle.record_voltvar.proofs.form_of.Goals as goal

pub returns-then-not-is_filled : goal.returns-then-not-is_filled
returns-then-not-is_filled c = form_blank _ _ c.is_filled.ensures (ap not c.if-not-is_filled.true)

pub returns-then-word_number-eq-NO_WORD : goal.returns-then-word_number-eq-NO_WORD
returns-then-word_number-eq-NO_WORD c = form_number _ _ c.is_filled.ensures _ c.word_number.ensures (ap not c.if-not-is_filled.false) c.if-word_number-eq-NO_WORD.true

pub returns : goal.returns
returns c = form_word _ _ c.is_filled.ensures _ c.word_number.ensures (ap not c.if-not-is_filled.false) c.if-word_number-eq-NO_WORD.false
