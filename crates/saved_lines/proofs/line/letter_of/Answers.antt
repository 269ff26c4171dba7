use Rattle.saved_lines.proofs.Meeting.{letter_market, letter_mfrr, letter_none}
use Rattle.saved_lines.proofs.line.letter_of.Goals as goal

pub returns-then-same : goal.returns-then-same
returns-then-same c = letter_market _ _ c.same.ensures c.if-same.true

pub returns-then-same-2 : goal.returns-then-same-2
returns-then-same-2 c =
    letter_mfrr _ _ c.same.ensures c.if-same.false _ c.same-2.ensures c.if-same-2.true

pub returns : goal.returns
returns c =
    letter_none _ _ c.same.ensures c.if-same.false _ c.same-2.ensures c.if-same-2.false
