-- Lists of things that have a key, a number: the operations by which the book of commands is defined.
use Rattle.std.specs.Prelude.{ℕ, suc, min, max, ◌≤◌, eqb, ltb, Bool, cond, List, [], ◌∷◌}

-- the lesser of two numbers, of which 0 stands for none
abbrev pub sooner : ℕ → ℕ → ℕ
sooner a b = cond (eqb a 0) b (cond (eqb b 0) a (min a b))

module _ {A : Type 0} where
  -- the things that pass a test, in their order
  abbrev pub keep : (A → Bool) → List A → List A
  keep p [] = []
  keep p (x ∷ l) = cond (p x) (x ∷ keep p l) (keep p l)

  -- one more, put before the first that has a greater key
  abbrev pub insert : (A → ℕ) → A → List A → List A
  insert key o [] = o ∷ []
  insert key o (x ∷ l) = cond (ltb (key o) (key x)) (o ∷ x ∷ l) (x ∷ insert key o l)

  -- each put into its place among those before it
  abbrev pub sort_onto : (A → ℕ) → List A → List A → List A
  sort_onto key acc [] = acc
  sort_onto key acc (x ∷ l) = sort_onto key (insert key x acc) l

  -- one more than the greatest key of those that pass a test: 0 where none does
  abbrev pub greatest : (A → ℕ) → (A → Bool) → List A → ℕ
  greatest key p [] = 0
  greatest key p (x ∷ l) = max (cond (p x) (suc (key x)) 0) (greatest key p l)

  -- the least key, where no key is 0: 0 where there is nothing
  abbrev pub least_of : (A → ℕ) → List A → ℕ
  least_of key [] = 0
  least_of key (x ∷ l) = sooner (key x) (least_of key l)

  -- every key is at least k; each key is at most those after it
  abbrev pub Above : (A → ℕ) → ℕ → List A → Type 0
  Above key k [] = Unit {0}
  Above key k (x ∷ l) = (k ≤ key x) × Above key k l

  abbrev pub Ascending : (A → ℕ) → List A → Type 0
  Ascending key [] = Unit {0}
  Ascending key (x ∷ l) = Above key (key x) l × Ascending key l
