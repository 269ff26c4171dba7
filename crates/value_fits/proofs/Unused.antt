-- The unused part of a room of any kind of element: a test that each element of it is the zero z tells what the whole room is. Assumes nothing.
use Prim.Native.Nat.{ℕ, zero, suc, ◌-◌, ◌≤◌}
use Rattle.text.proofs.Tests.{Tells, and_parts}
use Rattle.text.specs.Bytes.{all}
use lib.ListN.{length, take, drop, replicate, length-append, length-drop, length-replicate, take-append-drop}
use lib.Seq.{length-take-le, drop_at}
use mathlib.Core.Bool.{Bool, true}
use mathlib.Core.List.{List, [], ◌∷◌, ◌++◌}
use mathlib.Core.Logic.{◌↔◌}
use mathlib.Core.Path.{◌≡◌, refl, sym, ap, ap₂, ◌∙◌}
use native.Mathlib.Omega.{arith}

module _ {A : Type 0} (p : A → Bool) (z : A) (tells : (a : A) → Tells (p a) (a ≡ z)) where
  -- a list of zeros
  all_is : (l : List A) → all p l ≡ true → l ≡ replicate (length l) z
  unfolding all
  all_is [] e = refl
  all_is (x ∷ l) e =
      let o = and_parts (p x) (all p l) e in
      ap₂ (λ (y : A) (m : List A). y ∷ m) ((tells x).0 o.0) (all_is l o.1)

  is_all : (n : ℕ) → all p (replicate n z) ≡ true
  unfolding all
  is_all zero = refl
  is_all (suc n) = rw ((tells z).1 refl) (is_all n)

  -- a room of its size, of which the first n are used
  pub unused_tells : (size n : ℕ) (room : List A) → n ≤ size → n ≤ length room
      → ((length room ≡ size) × (all p (drop n room) ≡ true)) ↔ (room ≡ take n room ++ replicate (size - n) z)
  unused_tells size n room few inside =
      let front : length (take n room) ≡ n = length-take-le n room inside in
      let rest = replicate (size - n) z in (
        λ h.
            let k : length (drop n room) ≡ size - n = omega (arith, length-drop n room, h.0) in
            sym (take-append-drop n room) ∙ ap (λ (l : List A). take n room ++ l) (all_is (drop n room) h.1 ∙ ap (λ (m : ℕ). replicate m z) k),
        λ e. (
          omega (arith, ap length e, length-append (take n room) rest, length-replicate (size - n) z, front, few),
          ap (λ (l : List A). all p (drop n l)) e ∙ ap (all p) (drop_at (take n room) rest n front) ∙ is_all (size - n),
        ),
      )
