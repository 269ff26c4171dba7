-- The last of some things that passes a test: found from the last one down, and of ascending things the one with the greatest key. Assumes nothing.
use Prim.Native.Nat.{ℕ, zero, suc, max, ◌+◌, ◌-◌, ◌≤◌, ◌<◌}
use Rattle.book_lists.specs.Keyed.{greatest, Above, Ascending}
use Rattle.book_shelf.specs.Shelf.{thing, between, last_at, key_of}
use Rattle.text.proofs.Tests.{by_test, by_eq}
use lib.ListN.{length, take, drop, length-take, drop_of_length-le}
use lib.Seq.{take-suc, drop-append-le, length-take-le, length-slice, get_or-take}
use mathlib.Core.Bool.{Bool, true, false, cond}
use mathlib.Core.List.{List, [], ◌∷◌, ◌++◌}
use mathlib.Core.Path.{◌≡◌, refl, sym, ap, ◌∙◌}
use native.Mathlib.Omega.{arith}

module _ {A : Type 0} (p : A → Bool) where
  -- ---- where the last one lies

  pub last_most : (i : ℕ) (l : List A) → last_at p i l ≤ i + length l
  last_most i [] = omega arith
  last_most i (x ∷ l) = by_test (p x) (λ e. rw e (omega (arith, last_most (suc i) l))) (λ e. rw e (omega (arith, last_most (suc i) l)))

  last_least : (i : ℕ) (l : List A) → (last_at p i l ≡ 0 → ⊥) → i < last_at p i l
  last_least i [] n = absurd (n refl)
  last_least i (x ∷ l) n =
      by_test (p x)
      (λ e. rw e (omega arith))
      (λ e. let m : last_at p (suc i) l ≡ 0 → ⊥ = λ z. n (rw (e, z)) in rw e (omega (arith, last_least (suc i) l m)))

  last_append : (i : ℕ) (h : List A) (x : A) → last_at p i (h ++ (x ∷ [])) ≡ max (last_at p i h) (cond (p x) (suc (i + length h)) 0)
  last_append i [] x = let n : i + 0 ≡ i = omega arith in rw n (omega arith)
  last_append i (o ∷ h) x = let n : i + suc (length h) ≡ suc i + length h = omega arith in rw (last_append (suc i) h x, n) (omega arith)

  -- ---- the loop of last_live: none of the things passed, from the last one down, passes the test

  module _ (past : A) (from to i : ℕ) (l : List A) (so_far : last_at p from (between from to l) ≡ last_at p from (between from i l)) where
    module _ (c : i ≤ length l) (h : from < i) where
      last_taken : between from i l ≡ between from (i - 1) l ++ (thing past (i - 1) l ∷ [])
      last_taken =
          let n : suc (i - 1) ≡ i = omega (arith, h) in
          let k : i - 1 < length l = omega (arith, c, h) in
          ap (λ (j : ℕ). drop from (take j l)) (sym n) ∙ ap (drop from) (take-suc l (i - 1) past k)
          ∙ drop-append-le from (take (i - 1) l) (thing past (i - 1) l ∷ []) (omega (arith, h, length-take-le (i - 1) l (omega (arith, k))))

      last_turn : last_at p from (between from to l) ≡ max (last_at p from (between from (i - 1) l)) (cond (p (thing past (i - 1) l)) i 0)
      last_turn =
          let n : suc (from + length (between from (i - 1) l)) ≡ i = omega (arith, h, length-slice from (i - 1) l (omega (arith, c))) in
          so_far ∙ ap (last_at p from) last_taken ∙ rw (last_append from (between from (i - 1) l) (thing past (i - 1) l), n)

      pub last_not : p (thing past (i - 1) l) ≡ false → last_at p from (between from to l) ≡ last_at p from (between from (i - 1) l)
      last_not e = last_turn ∙ rw e (omega arith)

      pub last_here : p (thing past (i - 1) l) ≡ true → last_at p from (between from to l) ≡ suc (i - 1)
      last_here e =
          let m = last_most from (between from (i - 1) l) in
          last_turn ∙ rw e (omega (arith, h, m, length-slice from (i - 1) l (omega (arith, c))))

    pub last_none : i ≤ from → last_at p from (between from to l) ≡ 0
    last_none h = let k : length (take i l) ≤ from = omega (arith, h, length-take i l) in so_far ∙ rw (drop_of_length-le (take i l) k)

  -- ---- of ascending things it has the greatest key

  module _ (key : A → ℕ) where
    none_greatest : (i : ℕ) (l : List A) → last_at p i l ≡ 0 → greatest key p l ≡ 0
    none_greatest i [] e = refl
    none_greatest i (x ∷ l) e =
        by_test (p x)
        (λ t. absurd (omega (arith, rw t at e)))
        (λ t. let z : last_at p (suc i) l ≡ 0 = omega (arith, rw t at e) in rw (t, none_greatest (suc i) l z))

    above_thing : (past : A) (k n : ℕ) (l : List A) → n < length l → Above key k l → k ≤ key (thing past n l)
    above_thing past k n [] h a = absurd (omega (arith, h))
    above_thing past k zero (x ∷ l) h a = a.0
    above_thing past k (suc n) (x ∷ l) h a = above_thing past k n l (omega (arith, h)) a.1

    some_greatest : (past : A) (i n : ℕ) (l : List A) → Ascending key l → last_at p i l ≡ suc (i + n) → greatest key p l ≡ suc (key (thing past n l))
    some_greatest past i n [] s e = absurd (omega (arith, e))
    some_greatest past i zero (x ∷ l) s e =
        let z : last_at p (suc i) l ≡ 0 = by_eq (last_at p (suc i) l) 0 (λ z. z) (λ z. absurd (omega (arith, e, last_least (suc i) l z))) in
        by_test (p x)
        (λ t. rw (t, none_greatest (suc i) l z) (omega arith))
        (λ t. absurd (omega (arith, z, rw t at e)))
    some_greatest past i (suc n) (x ∷ l) s e =
        let z : last_at p (suc i) l ≡ suc (suc i + n) = by_test (p x) (λ t. omega (arith, rw t at e)) (λ t. omega (arith, rw t at e)) in
        let k : key x ≤ key (thing past n l) = above_thing past (key x) n l (omega (arith, z, last_most (suc i) l)) s.0 in
        rw (some_greatest past (suc i) n l s.1 z) (by_test (p x) (λ t. rw t (omega (arith, k))) (λ t. rw t (omega arith)))

    pub greatest_last : (past : A) (l : List A) → Ascending key l → greatest key p l ≡ key_of key past (last_at p 0 l) l
    greatest_last past l s = named (last_at p 0 l) refl
      where
        named : (m : ℕ) → last_at p 0 l ≡ m → greatest key p l ≡ key_of key past m l
        named zero e = none_greatest 0 l e
        named (suc n) e = some_greatest past 0 n l s (omega (arith, e))

-- ---- the key of the thing that is named, among the first `count`

pub key_taken : {A : Type 0} (key : A → ℕ) (past : A) (n count : ℕ) (l : List A) → n ≤ count → key_of key past n (take count l) ≡ key_of key past n l
key_taken key past zero count l h = refl
key_taken key past (suc i) count l h = rw (get_or-take count l i past (omega (arith, h)))
