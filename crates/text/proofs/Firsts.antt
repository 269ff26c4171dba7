-- A refusal is given exactly when its condition is the first in its list to hold: once, for every list of refusals and whatever is said. Assumes nothing.
use Prim.Native.Nat.{ℕ}
use Rattle.text.proofs.Tests.{by_test, and_parts}
use Rattle.text.specs.Bytes.{all}
use Rattle.text.specs.Refusals.{Refusal, first_holding, first_number, First, here, later, NoneHolds, none, next}
use borrow.Author.Tests.{leb-true}
use lib.Dec.{leb}
use mathlib.Core.Bool.{Bool, true, false}
use mathlib.Core.List.{List, [], ◌∷◌}
use mathlib.Core.Path.{◌≡◌, refl}
use native.Mathlib.Omega.{arith}

-- ---- from the conditions to what is said

module _ {A : Type 0} (say : ℕ → ℕ → A) (other : A) where
  pub first_given : {rs : List Refusal} {x : Refusal} → First rs x → first_holding say other rs ≡ say x.number x.detail
  first_given (here e) = rw e
  first_given (later e f) = rw e (first_given f)

  pub none_given : {rs : List Refusal} → NoneHolds rs → first_holding say other rs ≡ other
  none_given none = refl
  none_given (next e f) = rw e (none_given f)

-- ---- and back

-- one is the first that holds, or none holds
pub data Decided (rs : List Refusal) : Type 0 where
  first : {x : Refusal} → First rs x → Decided rs
  not_any : NoneHolds rs → Decided rs

pub decided : (rs : List Refusal) → Decided rs
decided [] = not_any none
decided (x ∷ xs) = by_test x.holds (λ e. first (here e)) (λ e. below e (decided xs))
  where
    below : x.holds ≡ false → Decided xs → Decided (x ∷ xs)
    below e (first f) = first (later e f)
    below e (not_any n) = not_any (next e n)

-- numbers from 1 on
abbrev pub numbered : Refusal → Bool
numbered x = leb 1 x.number

-- of such refusals the number 0 says that none holds
pub zero_none : (rs : List Refusal) → all numbered rs ≡ true → first_number rs ≡ 0 → NoneHolds rs
unfolding all
zero_none [] h z = none
zero_none (x ∷ xs) h z =
    let p = and_parts (numbered x) (all numbered xs) h in
    by_test x.holds
    (λ e. let k : x.number ≡ 0 = rw e at z in absurd (omega (arith, leb-true 1 x.number p.0)))
    (λ e. next e (zero_none xs p.1 (rw e at z)))
