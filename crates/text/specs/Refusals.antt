-- Refusals as lists. Document 01, "The book of commands", and document 02: a refusal is given exactly when its condition is the first in its call's list to
-- hold. So a list of refusals, each with its number, its detail and whether its condition holds, has one answer.
use Rattle.std.specs.Prelude.{ℕ, Bool, true, false, cond, List, [], ◌∷◌, ◌≡◌}

pub record Refusal : Type 0 where
  pub number : ℕ
  pub detail : ℕ
  pub holds : Bool

abbrev pub refusal : ℕ → ℕ → Bool → Refusal
refusal n d b = record { number = n; detail = d; holds = b }

-- THE DEFINITION: what the first refusal that holds says, by its number and detail, or else what is said where none does
abbrev pub first_holding : {A : Type 0} → (ℕ → ℕ → A) → A → List Refusal → A
first_holding say other [] = other
first_holding say other (x ∷ xs) = cond x.holds (say x.number x.detail) (first_holding say other xs)

-- its number: 0 where none holds
abbrev pub first_number : List Refusal → ℕ
first_number rs = first_holding (λ n d. n) 0 rs

-- ---- the same in other words

-- x holds, and none above it
pub data First : List Refusal → Refusal → Type 0 where
  here : {x : Refusal} {xs : List Refusal} → x.holds ≡ true → First (x ∷ xs) x
  later : {x y : Refusal} {xs : List Refusal} → y.holds ≡ false → First xs x → First (y ∷ xs) x

-- none holds
pub data NoneHolds : List Refusal → Type 0 where
  none : NoneHolds []
  next : {x : Refusal} {xs : List Refusal} → x.holds ≡ false → NoneHolds xs → NoneHolds (x ∷ xs)
