-- Choosing from a list: of how many a test holds, and what can be made of its elements.
use Rattle.std.specs.Prelude.{ℕ, ◌+◌, Bool, cond, List, [], ◌∷◌, None, Option, Some}

-- of how many p holds
unfoldable pub count : {A : Type 0} → (A → Bool) → List A → ℕ
count p [] = 0
count p (x ∷ xs) = cond (p x) 1 0 + count p xs

-- in front, if there is something
abbrev pub onto : {B : Type 0} → Option B → List B → List B
onto None ys = ys
onto (Some y) ys = y ∷ ys

-- what f makes of each, where it makes something
unfoldable pub sift : {A B : Type 0} → (A → Option B) → List A → List B
sift f [] = []
sift f (x ∷ xs) = onto (f x) (sift f xs)
