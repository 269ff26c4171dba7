-- The laws of the least key, where 0 stands for none. Assumes nothing.
use Prim.Native.Nat.{ℕ, min, ◌≤◌, ◌<◌}
use Rattle.book_lists.proofs.Keeping.{All, all_weaker}
use Rattle.book_lists.specs.Keyed.{sooner, insert, sort_onto, least_of}
use Rattle.text.proofs.Tests.{by_test, by_le}
use borrow.Author.Tests.{ne_eqb}
use lib.Dec.{ltb}
use mathlib.Core.List.{List, [], ◌∷◌, ◌++◌, map, Memᴰ}
use mathlib.Core.Path.{◌≡◌, refl, sym, ap, ◌∙◌}
use native.Mathlib.Omega.{arith}

-- ---- the lesser of two numbers, of which 0 stands for none

by_none : {X : Type 0} (a : ℕ) → (a ≡ 0 → X) → (0 < a → X) → X
by_none a p q = by_le a 0 (λ h. p (omega arith)) q

min_assoc : (a b c : ℕ) → min (min a b) c ≡ min a (min b c)
min_assoc a b c = omega arith

pub sooner_none : (a : ℕ) → sooner a 0 ≡ a
sooner_none a = by_none a (λ e. rw e) (λ h. rw (ne_eqb a 0 (λ e. omega arith)))

pub sooner_both : (a b : ℕ) → 0 < a → 0 < b → sooner a b ≡ min a b
sooner_both a b h k = rw (ne_eqb a 0 (λ e. omega arith), ne_eqb b 0 (λ e. omega arith))

pub sooner_comm : (a b : ℕ) → sooner a b ≡ sooner b a
sooner_comm a b =
    by_none a
    (λ e. rw e (sym (sooner_none b)))
    (λ h. by_none b
    (λ e. rw e (sooner_none a))
    (λ k. rw (sooner_both a b h k, sooner_both b a k h) (omega arith)))

pub sooner_assoc : (a b c : ℕ) → sooner (sooner a b) c ≡ sooner a (sooner b c)
sooner_assoc a b c =
    by_none a
    (λ e. rw e)
    (λ h. by_none b
    (λ e. rw (e, sooner_none a))
    (λ k. by_none c
    (λ e. rw (e, sooner_none b) (sooner_none (sooner a b)))
    (λ m.
    rw (sooner_both a b h k, sooner_both b c k m, sooner_both (min a b) c (omega arith) m, sooner_both a (min b c) h (omega arith)) (min_assoc a b c))))

-- it is none only where both are, and at most each that is not
pub sooner_some : (a b : ℕ) → 0 < a → 0 < sooner a b
sooner_some a b h = by_none b (λ e. rw (e, sooner_none a) h) (λ k. rw (sooner_both a b h k) (omega arith))

pub sooner_first : (a b : ℕ) → 0 < a → sooner a b ≤ a
sooner_first a b h = by_none b (λ e. rw (e, sooner_none a) (omega arith)) (λ k. rw (sooner_both a b h k) (omega arith))

pub sooner_second : (a b : ℕ) → 0 < b → sooner a b ≤ b
sooner_second a b k = rw (sooner_comm a b) (sooner_first b a k)

-- ---- the least key

module _ {A : Type 0} where
  pub least_append : (key : A → ℕ) (l m : List A) → least_of key (l ++ m) ≡ sooner (least_of key l) (least_of key m)
  least_append key [] m = refl
  least_append key (x ∷ l) m =
      ap (λ (n : ℕ). sooner (key x) n) (least_append key l m) ∙ sym (sooner_assoc (key x) (least_of key l) (least_of key m))

  pub least_insert : (by key : A → ℕ) (o : A) (l : List A) → least_of key (insert by o l) ≡ sooner (least_of key l) (key o)
  least_insert by key o [] = sooner_none (key o)
  least_insert by key o (x ∷ l) =
      by_test (ltb (by o) (by x))
      (λ e. rw e (sooner_comm (key o) (least_of key (x ∷ l))))
      (λ e. rw e
      (ap (λ (n : ℕ). sooner (key x) n) (least_insert by key o l) ∙ sym (sooner_assoc (key x) (least_of key l) (key o))))

  -- onto those sorted already
  pub least_onto : (by key : A → ℕ) (acc l : List A) → least_of key (sort_onto by acc l) ≡ sooner (least_of key acc) (least_of key l)
  least_onto by key acc [] = sym (sooner_none (least_of key acc))
  least_onto by key acc (x ∷ l) =
      least_onto by key (insert by x acc) l
      ∙ ap (λ (n : ℕ). sooner n (least_of key l)) (least_insert by key x acc)
      ∙ sooner_assoc (least_of key acc) (key x) (least_of key l)

  pub least_sort : (by key : A → ℕ) (l : List A) → least_of key (sort_onto by [] l) ≡ least_of key l
  least_sort by key l = least_onto by key [] l

  -- a change that leaves the keys
  pub least_map : (key : A → ℕ) (f : A → A) → ((x : A) → key (f x) ≡ key x) → (l : List A) → least_of key (map f l) ≡ least_of key l
  least_map key f h [] = refl
  least_map key f h (x ∷ l) = rw (h x, least_map key f h l)

  -- ---- it is one of the keys, and where all are above 0 it bounds them

  pub least_is : (key : A → ℕ) (l : List A) → (least_of key l ≡ 0 → ⊥) → (x : A) × Memᴰ x l × (key x ≡ least_of key l)
  least_is key [] h = absurd (h refl)
  least_is key (x ∷ l) h =
      by_none (least_of key l)
      (λ e. (x, Memᴰ.head refl, rw e (sym (sooner_none (key x)))))
      (λ k. by_none (key x)
      (λ e. let r = least_is key l (λ z. omega arith) in (r.0, Memᴰ.tail r.1, rw e r.2))
      (λ m. by_le (key x) (least_of key l)
      (λ le. (x, Memᴰ.head refl, rw (sooner_both (key x) (least_of key l) m k) (omega arith)))
      (λ lt.
      let r = least_is key l (λ z. omega arith) in
      (r.0, Memᴰ.tail r.1, rw (sooner_both (key x) (least_of key l) m k) (omega (arith, r.2))))))

  module _ (key : A → ℕ) where
    pub least_none : (l : List A) → All (λ x. 0 < key x) l → least_of key l ≡ 0 → l ≡ []
    least_none [] a e = refl
    least_none (x ∷ l) a e = absurd (omega (arith, sooner_some (key x) (least_of key l) a.0))

    pub least_most : (l : List A) → All (λ x. 0 < key x) l → All (λ x. least_of key l ≤ key x) l
    least_most [] a = tt
    least_most (x ∷ l) a =
        let n = least_of key l in (
          sooner_first (key x) n a.0,
          by_none n
              (λ e. rw (least_none l a.1 e) tt)
              (λ k.
              let s = sooner_second (key x) n k in
              all_weaker (λ y. n ≤ key y) (λ y. sooner (key x) n ≤ key y) (λ y h. omega arith) l (least_most l a.1)),
        )
