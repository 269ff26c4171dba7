-- What a chain of the standard library tests of a list, in the words of the definitions. Assumes nothing.
use Rattle.std.specs.List.{list_any, list_all}
use Rattle.text.specs.Bytes.{any, all}
use mathlib.Core.Bool.{Bool}
use mathlib.Core.List.{List, [], ◌∷◌}
use mathlib.Core.Path.{◌≡◌, refl}

pub any_is : {A : Type 0} (p : A → Bool) (l : List A) → list_any p l ≡ any p l
unfolding any
any_is p [] = refl
any_is p (x ∷ l) = rw (any_is p l)

pub all_is : {A : Type 0} (p : A → Bool) (l : List A) → list_all p l ≡ all p l
unfolding all
all_is p [] = refl
all_is p (x ∷ l) = rw (all_is p l)
