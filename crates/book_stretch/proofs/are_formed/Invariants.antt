use Rattle.book_stretch.specs.Stretches.{apart_from, formed_in}
use lib.ListN.{drop}
use mathlib.Core.Path.{◌≡◌}
use Rattle.book_stretch.proofs.are_formed.Given as goal

-- What is left, from the least start on, answers for all.
abbrev pub invariant-loop-i : goal.invariant-loop-i
invariant-loop-i l = apart_from l.least l.time.to (drop l.i l.list) ≡ formed_in l.time l.list
