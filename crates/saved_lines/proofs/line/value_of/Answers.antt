use Rattle.saved_lines.proofs.line.value_of.Goals as goal

pub returns-in-Whole : goal.returns-in-Whole
returns-in-Whole c = rw c.in-Whole.is c.read.ensures

pub returns-in-Amount : goal.returns-in-Amount
returns-in-Amount c = rw c.in-Amount.is c.amount_of.ensures

pub returns-in-Letter : goal.returns-in-Letter
returns-in-Letter c = rw c.in-Letter.is c.letter_of.ensures
