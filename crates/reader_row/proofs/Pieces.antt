-- A piece of the file with a `;` before it, compared with what stands at a place. Assumes nothing.
use Rattle.std.specs.Prelude.{None, Option}
use Prim.Native.Nat.{ℕ, suc, ◌+◌, ◌-◌, ◌≤◌, ◌<◌}
use Rattle.reader_row.specs.Steps.{step_of}
use Rattle.text.proofs.Cuts.{drop_step}
use Rattle.text.specs.Bytes.{part, starts}
use borrow.Author.Tests.{ne_eqb}
use lib.ListN.{length, get_or}
use mathlib.Core.List.{List, ◌∷◌}
use mathlib.Core.Path.{◌≡◌, sym, ◌∙◌}
use native.Mathlib.Omega.{arith}

module _ (file : List ℕ) (at end : ℕ) (t : List ℕ) where
  part_next : at < end → end ≤ length file → part at end file ≡ get_or file at 0 ∷ part (at + 1) end file
  part_next h l =
      let n : end - at ≡ suc (end - (at + 1)) = omega arith in
      rw (drop_step file at (omega arith), n)

  pub mark_end : end ≤ at → None ≡ step_of file at end (59 ∷ t)
  unfolding step_of starts
  mark_end h =
      let n : end - at ≡ 0 = omega arith in
      rw n

  pub mark_other : at < end → end ≤ length file → (get_or file at 0 ≡ 59 → ⊥) → None ≡ step_of file at end (59 ∷ t)
  unfolding step_of starts
  mark_other h l e = rw (part_next h l, ne_eqb 59 (get_or file at 0) (λ z. e (sym z)))

  pub mark_on : at < end → end ≤ length file → get_or file at 0 ≡ 59 → (r : Option ℕ) → r ≡ step_of file (at + 1) end t → r ≡ step_of file at end (59 ∷ t)
  unfolding step_of starts
  mark_on h l e r s =
      let n : at + 1 + length t ≡ at + suc (length t) = omega arith in
      s ∙ rw (part_next h l, e, n)
