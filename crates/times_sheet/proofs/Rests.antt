-- What is left of a list from a place on, by how long it is. Assumes nothing.
use Prim.Native.Nat.{ℕ, suc, ◌+◌, ◌-◌, ◌≤◌}
use Rattle.text_keyline.specs.Keylines.{below}
use Rattle.text.proofs.Tests.{by_test}
use Rattle.text.specs.Bytes.{is, past}
use lib.ListN.{length, drop}
use lib.Seq.{drop-drop}
use mathlib.Core.Bool.{Bool}
use mathlib.Core.List.{List, [], ◌∷◌}
use mathlib.Core.Path.{◌≡◌, refl, ap, ◌∙◌}
use native.Mathlib.Omega.{arith}

module _ {A : Type 0} (p : A → Bool) where
  pub past_length : (s : List A) → length (past p s) ≤ length s
  unfolding past
  past_length [] = omega arith
  past_length (x ∷ s) =
      by_test (p x) (λ e. rw e (omega arith)) (λ e. let r = past_length s in rw e (omega arith))

  pub past_place : (s : List A) → past p s ≡ drop (length s - length (past p s)) s
  unfolding past
  past_place [] = refl
  past_place (x ∷ s) =
      by_test (p x)
      (λ e. let n : suc (length s) - length s ≡ 1 = omega arith in rw (e, n))
      (λ e. let n : suc (length s) - length (past p s) ≡ suc (length s - length (past p s)) = omega (arith, past_length s) in rw (e, n) (past_place s))

-- t is what is left of s
pub record Rest (s t : List ℕ) : Type 0 where
  pub near : length t ≤ length s
  pub left : t ≡ drop (length s - length t) s

pub rest_all : (s : List ℕ) → Rest s s
rest_all s = let n : length s - length s ≡ 0 = omega arith in record { near = omega arith; left = rw n }

-- what follows its first line is left too
pub rest_below : (s t : List ℕ) → Rest s t → Rest s (below t)
rest_below s t r =
    let m = past_length (is 10) t in
    let h = r.near in
    let n : length s - length t + (length t - length (below t)) ≡ length s - length (below t) = omega arith in
    record {
      near = omega arith;
      left =
          past_place (is 10) t ∙ ap (λ (x : List ℕ). drop (length t - length (below t)) x) r.left
          ∙ drop-drop (length t - length (below t)) (length s - length t) s ∙ ap (λ (k : ℕ). drop k s) n;
    }
