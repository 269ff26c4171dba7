-- Places that hold one value alone from a place on. Assumes nothing.
use Prim.Native.Nat.{ℕ, ◌-◌, ◌≤◌}
use Rattle.book_shelf.specs.Shelf.{packed}
use Rattle.text.proofs.Tests.{and_parts}
use Rattle.text.specs.Bytes.{all}
use lib.ListN.{length, take, drop, replicate, length-drop, take-append-drop}
use lib.Seq.{length-take-le}
use mathlib.Core.Bool.{Bool, true}
use mathlib.Core.List.{List, [], ◌∷◌, ◌++◌}
use mathlib.Core.Path.{◌≡◌, refl, sym, ap, ◌∙◌}

-- p tells the one value x
module _ {A : Type 0} (p : A → Bool) (x : A) (tells : (y : A) → p y ≡ true → y ≡ x) where
  all_replicate : (l : List A) → all p l ≡ true → l ≡ replicate (length l) x
  unfolding all
  all_replicate [] e = refl
  all_replicate (y ∷ l) e =
      let q = and_parts (p y) (all p l) e in
      λ i. tells y q.0 i ∷ all_replicate l q.1 i

  -- a list cut where only such follow
  pub all_rest : (n size : ℕ) (l : List A) → length l ≡ size → all p (drop n l) ≡ true → l ≡ take n l ++ replicate (size - n) x
  all_rest n size l s e =
      sym (take-append-drop n l)
      ∙ ap (λ (m : List A). take n l ++ m) (all_replicate (drop n l) e)
      ∙ ap (λ (m : ℕ). take n l ++ replicate m x) (length-drop n l ∙ ap (λ (m : ℕ). m - n) s)

  pub all_packed : (n size : ℕ) (l : List A) → length l ≡ size → n ≤ length l → all p (drop n l) ≡ true → l ≡ packed x size (take n l)
  all_packed n size l s h e = rw (length-take-le n l h) (all_rest n size l s e)
