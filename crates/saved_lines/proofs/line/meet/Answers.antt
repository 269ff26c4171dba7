use Rattle.saved_lines.proofs.line.meet.Goals as goal

pub returns-in-Some : goal.returns-in-Some
returns-in-Some c = rw c.in-Some.is c.line_says.ensures
