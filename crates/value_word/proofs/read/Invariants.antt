use Prim.Native.Nat.{suc, ◌-◌}
use Rattle.value_word.specs.Words.{word_from, word_in}
use mathlib.Core.Path.{◌≡◌}
use Rattle.value_word.proofs.read.Given as goal

-- The words from w on answer as all of them do; a longer text is none.
abbrev pub invariant-loop-w : goal.invariant-loop-w
invariant-loop-w l = word_in l.first l.last l.s ≡ word_from (suc l.last - l.w) l.w l.s
