use Rattle.saved_lines.proofs.Meeting.{no_line, no_value, value_out, value_in_lem}
use Rattle.saved_lines.proofs.line.line_says.Goals as goal

pub returns-in_default : goal.returns-in_default
returns-in_default c =
    no_line _ _ _ _ _ _ c.key_of-key.ensures _ c.front.ensures _ c.line_of.ensures c.in_default.is

pub returns-in_default-value_of : goal.returns-in_default-value_of
returns-in_default-value_of c =
    no_value _ _ _ _ _ _ c.key_of-key.ensures _ c.front.ensures _ c.line_of.ensures
    _ c.in-Some.is _ _ c.front-2.ensures c.rest.ensures _ c.value_of.ensures c.in_default-value_of.is

pub returns-then-v-x : goal.returns-then-v-x
returns-then-v-x c =
    value_out _ _ _ _ _ _ c.key_of-key.ensures _ c.front.ensures _ c.line_of.ensures
    _ c.in-Some.is _ _ c.front-2.ensures c.rest.ensures _ c.value_of.ensures
    _ c.in-Some-value_of.is c.if-v-x.true

pub returns : goal.returns
returns c =
    value_in_lem _ _ _ _ _ _ c.key_of-key.ensures _ c.front.ensures _ c.line_of.ensures
    _ c.in-Some.is _ _ c.front-2.ensures c.rest.ensures _ c.value_of.ensures
    _ c.in-Some-value_of.is c.if-v-x.false
