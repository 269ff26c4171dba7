-- Texts compared one after another are their join, compared; and a text that is gone through to the end is the same. Assumes nothing.
use Rattle.std.specs.Prelude.{None, Option, Some}
use Prim.Native.Nat.{ℕ, ◌+◌, ◌≤◌}
use Rattle.reader_row.specs.Steps.{step_of}
use Rattle.text.proofs.Cuts.{part_from, length_part, starts_length, same_true, same_lengths}
use Rattle.text.proofs.Tests.{by_test, by_eq, eqb_tells, same_if}
use Rattle.text.specs.Bytes.{part, same, starts}
use borrow.Author.Tests.{eq-eqb, ne_eqb}
use lib.Dec.{eqb}
use lib.ListN.{length, drop, length-append}
use mathlib.Core.Bool.{true, false, ◌&&◌, false≢true}
use mathlib.Core.List.{List, [], ◌∷◌, ◌++◌}
use mathlib.Core.Path.{◌≡◌, refl, sym, ap, ◌∙◌}
use native.Mathlib.Omega.{arith}

-- ---- beginning with a text, and being it

starts_join : (t u s : List ℕ) → starts (t ++ u) s ≡ (starts t s && starts u (drop (length t) s))
unfolding starts
starts_join [] u s = refl
starts_join (x ∷ t) u [] = refl
starts_join (x ∷ t) u (y ∷ s) = by_test (eqb x y) (λ e. rw e (starts_join t u s)) (λ e. rw e)

eqb_sym : (a b : ℕ) → eqb a b ≡ eqb b a
eqb_sym a b = same_if (eqb_tells a b) (eqb_tells b a) (λ e. sym e) (λ e. sym e)

same_starts : (s t : List ℕ) → length s ≡ length t → same s t ≡ starts t s
unfolding same starts
same_starts [] [] e = refl
same_starts [] (x ∷ t) e = absurd (omega arith)
same_starts (y ∷ s) [] e = absurd (omega arith)
same_starts (y ∷ s) (x ∷ t) e =
    let n : length s ≡ length t = omega arith in
    rw (eqb_sym y x, same_starts s t n)

same_not : (s t : List ℕ) → starts t s ≡ false → false ≡ same s t
same_not s t n =
    by_test (same s t) (λ e. absurd (false≢true (sym n ∙ sym (same_starts s t (ap length (same_true s t e))) ∙ e))) (λ e. sym e)

-- ---- nothing to compare

pub step_none : (file : List ℕ) (at end : ℕ) → Some at ≡ step_of file at end []
unfolding step_of starts
step_none file at end = let n : at ≡ at + 0 = omega arith in ap Some n

-- ---- after the comparison with t

module _ (file : List ℕ) (at end : ℕ) (t : List ℕ) (r : Option ℕ) (e : r ≡ step_of file at end t) where
  went : (b : ℕ) → r ≡ Some b → (starts t (part at end file) ≡ true) × (b ≡ at + length t)
  unfolding step_of
  went b w =
      by_test (starts t (part at end file)) (λ h. (h, let z : Some b ≡ Some (at + length t) = sym w ∙ e ∙ rw h in cc))
      (λ h. let z : Some b ≡ None = sym w ∙ e ∙ rw h in (cc, cc))

  stayed : r ≡ None → starts t (part at end file) ≡ false
  unfolding step_of
  stayed w =
      by_test (starts t (part at end file)) (λ h. let z : None ≡ Some (at + length t) = sym w ∙ e ∙ rw h in cc) (λ h. h)

  pub step_fits : at ≤ end → end ≤ length file → (b : ℕ) → r ≡ Some b → b ≤ end
  step_fits h l b w =
      let g = went b w in
      omega (arith, starts_length t (part at end file) g.0, g.1, length_part at end file l)

  -- u comes next
  pub step_on : (u : List ℕ) (b : ℕ) → r ≡ Some b → step_of file b end u ≡ step_of file at end (t ++ u)
  unfolding step_of
  step_on u b w =
      let g = went b w in
      let n : b + length u ≡ at + length (t ++ u) = omega (arith, g.1, length-append t u) in
      rw (starts_join t u (part at end file), g.0, part_from file at end (length t), sym g.1, n)

  pub step_stop : (u : List ℕ) → r ≡ None → None ≡ step_of file at end (t ++ u)
  unfolding step_of
  step_stop u w = rw (starts_join t u (part at end file), stayed w)

  -- t is all
  pub step_last : at ≤ end → end ≤ length file → (b : ℕ) → r ≡ Some b → eqb b end ≡ same (part at end file) t
  step_last h l b w =
      let g = went b w in
      let s = part at end file in
      by_eq b end (λ q. eq-eqb b end q ∙ sym g.0 ∙ sym (same_starts s t (omega (arith, g.1, length_part at end file l))))
      (λ n. ne_eqb b end n ∙ same_lengths s t (λ q. n (omega (arith, g.1, length_part at end file l))))

  pub step_other : r ≡ None → false ≡ same (part at end file) t
  step_other w = same_not (part at end file) t (stayed w)
