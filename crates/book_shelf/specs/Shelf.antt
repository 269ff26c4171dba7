-- Things in the first of some places, by ascending key, and nothing in the others; and what is done with them. Over any thing and key.
use Rattle.std.specs.Prelude.{ℕ, zero, suc, max, ◌-◌, ◌≤◌, leb, ltb, eqb, length, get_or, take, drop, replicate, Bool, ◌&&◌, cond, List, [], ◌∷◌, ◌++◌}
use Rattle.text.specs.Bytes.{upto}

-- ---- places

module _ {A : Type 0} where
  -- things in the first of n places; `none` stands in an empty one
  abbrev pub packed : A → ℕ → List A → List A
  packed none n l = l ++ replicate (n - length l) none

  -- the thing at a place; `past` is what would stand past the last
  abbrev pub thing : A → ℕ → List A → A
  thing past i l = get_or l i past

  -- those from one place up to, not including, another
  abbrev pub between : ℕ → ℕ → List A → List A
  between from to l = drop from (take to l)

  -- a thing put in at a place: those from there up to the place `count`, which was empty, move up by one
  unfoldable pub put_in : ℕ → ℕ → A → List A → List A
  put_in at count o l = take at l ++ (o ∷ (drop at (take count l) ++ drop (suc count) l))

  -- another thing at a place
  unfoldable pub replaced : ℕ → A → List A → List A
  replaced at o l = take at l ++ (o ∷ drop (suc at) l)

  -- those that pass a test that knows the place too, the first of which is i
  abbrev pub keep_at : (ℕ → A → Bool) → ℕ → List A → List A
  keep_at q i [] = []
  keep_at q i (x ∷ l) = cond (q i x) (x ∷ keep_at q (suc i) l) (keep_at q (suc i) l)

  -- the last that passes a test: one more than its place, the first of which is i, or 0 where none does
  abbrev pub last_at : (A → Bool) → ℕ → List A → ℕ
  last_at p i [] = 0
  last_at p i (x ∷ l) = max (cond (p x) (suc i) 0) (last_at p (suc i) l)

-- ---- by ascending key

module _ {A : Type 0} (key : A → ℕ) where
  -- each key is lo or more, and past those before it
  abbrev pub Rising : ℕ → List A → Type 0
  Rising lo [] = Unit {0}
  Rising lo (o ∷ l) = (lo ≤ key o) × Rising (suc (key o)) l

  -- how many stand before the first whose key is n or more
  unfoldable pub rank_of : ℕ → List A → ℕ
  rank_of n l = length (upto (λ o. leb n (key o)) l)

  -- whether the thing at a place has the key n
  unfoldable pub is_held_at : A → ℕ → ℕ → List A → Bool
  is_held_at past n at l = ltb at (length l) && eqb (key (thing past at l)) n

  -- one more than the key of the thing that `last_at` names; 0 for none
  abbrev pub key_of : A → ℕ → List A → ℕ
  key_of past zero l = 0
  key_of past (suc i) l = suc (key (thing past i l))
