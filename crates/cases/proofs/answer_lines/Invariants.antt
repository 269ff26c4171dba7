-- Each turn passes a line and its end.
use Rattle.std.proofs.Common.{◌-◌, ◌≡◌, length}
use Rattle.cases.proofs.answer_lines.Given as goal

abbrev pub invariant-loop-at : goal.invariant-loop-at
invariant-loop-at g l = length l.text ≡ length l.initial.text

abbrev pub decreases-loop-at : goal.decreases-loop-at
decreases-loop-at g l = length l.text - l.at
