-- The search of a word among those that are left: one turn, and its end. Assumes nothing.
use Rattle.std.specs.Prelude.{None, Some}
use Prim.Native.Nat.{ℕ, suc, ◌+◌, ◌-◌, ◌≤◌, ◌<◌}
use Rattle.text.specs.Bytes.{same}
use Rattle.value_word.specs.Words.{word, word_from}
use mathlib.Core.Bool.{true, false}
use mathlib.Core.List.{List}
use mathlib.Core.Path.{◌≡◌}
use native.Mathlib.Numerals.{add-one}
use native.Mathlib.Omega.{arith}

module _ (last w : ℕ) (s : List ℕ) where
  pub word_here : w ≤ last → same (word w) s ≡ true → word_from (suc last - w) w s ≡ Some w
  unfolding word_from
  word_here h e = let n : suc last - w ≡ suc (last - w) = omega arith in rw (n, e)

  pub word_on : w ≤ last → same (word w) s ≡ false → word_from (suc last - w) w s ≡ word_from (suc last - (w + 1)) (w + 1) s
  unfolding word_from
  word_on h e =
      let n : suc last - w ≡ suc (suc last - (w + 1)) = omega arith in
      rw (n, e, add-one)

  pub word_end : last < w → word_from (suc last - w) w s ≡ None
  unfolding word_from
  word_end h = let n : suc last - w ≡ 0 = omega arith in rw n
