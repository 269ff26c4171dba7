-- Lines in another order. The second demand: a file's record is the one that its text gives, however its lines are ordered.
use Rattle.std.specs.Prelude.{List, [], ◌∷◌}

-- ys is xs in another order
pub data Perm {A : Type 0} : List A → List A → Type 0 where
  done : Perm [] []
  keep : (x : A) {xs ys : List A} → Perm xs ys → Perm (x ∷ xs) (x ∷ ys)
  swap : (x y : A) (xs : List A) → Perm (x ∷ y ∷ xs) (y ∷ x ∷ xs)
  both : {xs ys zs : List A} → Perm xs ys → Perm ys zs → Perm xs zs
