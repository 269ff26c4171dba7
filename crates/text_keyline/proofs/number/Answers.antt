use Rattle.text_keyline.proofs.Values.{no_line, line_number}
use Rattle.text_keyline.proofs.number.Goals as goal

pub returns-in_default : goal.returns-in_default
returns-in_default c = no_line _ _ _ _ c.line_of.ensures c.in_default.is

pub returns : goal.returns
returns c =
    line_number _ _ _ _ c.line_of.ensures _ _ _ c.in-Some.is c.value.ensures c.whole.ensures
