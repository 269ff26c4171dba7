use Rattle.text_keyline.proofs.Values.{no_whole, whole_in_lem, whole_out}
use Rattle.text_keyline.proofs.whole.Goals as goal

pub returns-in_default : goal.returns-in_default
returns-in_default c = no_whole _ _ _ _ c.read.ensures c.in_default.is

pub returns-then-least-n : goal.returns-then-least-n
returns-then-least-n c = whole_in_lem _ _ _ _ c.read.ensures _ c.in-Some.is c.if-least-n.true

pub returns : goal.returns
returns c = whole_out _ _ _ _ c.read.ensures _ c.in-Some.is c.if-least-n.false
