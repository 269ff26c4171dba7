-- The laws of keys: lists in ascending order, a thing put into its place, sorting, and the greatest key. Assumes nothing.
use Prim.Native.Nat.{ℕ, suc, max, ◌+◌, ◌≤◌, ◌<◌}
use Rattle.book_lists.proofs.Keeping.{fails_with, All}
use Rattle.book_lists.specs.Keyed.{keep, insert, sort_onto, greatest, Above, Ascending}
use Rattle.text.proofs.Tests.{by_test, by_eq}
use Rattle.text.specs.Bytes.{any}
use borrow.Author.Tests.{ltb-true, ltb-false, lt-ltb, le-ltb, eqb-false}
use lib.Dec.{ltb, eqb-zero-suc}
use lib.ListN.{length}
use mathlib.Core.Bool.{Bool, true, cond, ◌||◌, or-false, or_assoc}
use mathlib.Core.List.{List, [], ◌∷◌, ◌++◌, map, Memᴰ}
use mathlib.Core.Path.{◌≡◌, refl, sym, ap, ◌∙◌}
use native.Mathlib.Omega.{arith}

cond_ap : {X Y : Type 0} (f : X → Y) (b : Bool) (x y : X) → f (cond b x y) ≡ cond b (f x) (f y)
cond_ap f b x y = by_test b (λ e. rw e) (λ e. rw e)

or_swap : (a b c : Bool) → a || (b || c) ≡ b || (a || c)
or_swap a b c = by_test a (λ e. by_test b (λ f. rw (e, f)) (λ f. rw (e, f))) (λ e. rw e)

module _ {A : Type 0} (key : A → ℕ) where
  -- ---- ascending keys

  pub above_weaken : (j k : ℕ) (l : List A) → j ≤ k → Above key k l → Above key j l
  above_weaken j k [] h a = tt
  above_weaken j k (x ∷ l) h a = (omega arith, above_weaken j k l h a.1)

  pub above_keep : (p : A → Bool) (k : ℕ) (l : List A) → Above key k l → Above key k (keep p l)
  above_keep p k [] a = tt
  above_keep p k (x ∷ l) a = by_test (p x) (λ e. rw e (a.0, above_keep p k l a.1)) (λ e. rw e (above_keep p k l a.1))

  pub ascending_keep : (p : A → Bool) (l : List A) → Ascending key l → Ascending key (keep p l)
  ascending_keep p [] s = tt
  ascending_keep p (x ∷ l) s =
      by_test (p x)
      (λ e. rw e (above_keep p (key x) l s.0, ascending_keep p l s.1))
      (λ e. rw e (ascending_keep p l s.1))

  pub above_insert : (o : A) (k : ℕ) (l : List A) → k ≤ key o → Above key k l → Above key k (insert key o l)
  above_insert o k [] h a = (h, tt)
  above_insert o k (x ∷ l) h a = by_test (ltb (key o) (key x)) (λ e. rw e (h, (a.0, a.1))) (λ e. rw e (a.0, above_insert o k l h a.1))

  pub ascending_insert : (o : A) (l : List A) → Ascending key l → Ascending key (insert key o l)
  ascending_insert o [] s = (tt, tt)
  ascending_insert o (x ∷ l) s =
      by_test (ltb (key o) (key x))
      (λ e. let lt : key o < key x = ltb-true _ _ e in
      rw e ((omega arith, above_weaken (key o) (key x) l (omega arith) s.0), (s.0, s.1)))
      (λ e. let le : key x ≤ key o = ltb-false _ _ e in
      rw e (above_insert o (key x) l le s.0, ascending_insert o l s.1))

  -- a change that leaves the keys
  pub above_map : (f : A → A) → ((x : A) → key (f x) ≡ key x) → (k : ℕ) (l : List A) → Above key k l → Above key k (map f l)
  above_map f h k [] a = tt
  above_map f h k (x ∷ l) a = (rw (h x) a.0, above_map f h k l a.1)

  pub ascending_map : (f : A → A) → ((x : A) → key (f x) ≡ key x) → (l : List A) → Ascending key l → Ascending key (map f l)
  ascending_map f h [] s = tt
  ascending_map f h (x ∷ l) s = (rw (h x) (above_map f h (key x) l s.0), ascending_map f h l s.1)

  -- ---- a thing put into its place

  -- a thing whose key is below all the others goes first
  insert_first : (o : A) (l : List A) (k : ℕ) → key o < k → Above key k l → insert key o l ≡ o ∷ l
  insert_first o [] k h a = refl
  insert_first o (x ∷ l) k h a = rw (lt-ltb (key o) (key x) (omega arith))

  pub keep_insert : (p : A → Bool) (o : A) (l : List A) → Ascending key l
      → keep p (insert key o l) ≡ cond (p o) (insert key o (keep p l)) (keep p l)
  keep_insert p o [] s = refl
  keep_insert p o (x ∷ l) s =
      by_test (ltb (key o) (key x))
      (λ e. rw e (by_test (p x)
      (λ f. rw (f, e))
      (λ f. rw (f, insert_first o (keep p l) (key x) (ltb-true _ _ e) (above_keep p (key x) l s.0)))))
      (λ e. rw e (by_test (p x)
      (λ f. rw (f, e, keep_insert p o l s.1) (cond_ap (λ (m : List A). x ∷ m) (p o) _ _))
      (λ f. rw f (keep_insert p o l s.1))))

  pub insert_map : (f : A → A) → ((x : A) → key (f x) ≡ key x) → (o : A) (l : List A) → map f (insert key o l) ≡ insert key (f o) (map f l)
  insert_map f h o [] = refl
  insert_map f h o (x ∷ l) = by_test (ltb (key o) (key x)) (λ e. rw (h o, h x, e)) (λ e. rw (h o, h x, e, insert_map f h o l))

  pub any_insert : (p : A → Bool) (o : A) (l : List A) → any p (insert key o l) ≡ p o || any p l
  unfolding any
  any_insert p o [] = refl
  any_insert p o (x ∷ l) =
      by_test (ltb (key o) (key x))
      (λ e. rw e)
      (λ e. rw (e, any_insert p o l) (or_swap (p x) (p o) (any p l)))

  pub length_insert : (o : A) (l : List A) → length (insert key o l) ≡ suc (length l)
  length_insert o [] = refl
  length_insert o (x ∷ l) = by_test (ltb (key o) (key x)) (λ e. rw e) (λ e. rw (e, length_insert o l))

  pub greatest_insert : (p : A → Bool) (o : A) (l : List A) → greatest key p (insert key o l) ≡ max (cond (p o) (suc (key o)) 0) (greatest key p l)
  greatest_insert p o [] = refl
  greatest_insert p o (x ∷ l) = by_test (ltb (key o) (key x)) (λ e. rw e) (λ e. rw (e, greatest_insert p o l) (omega arith))

  -- two things with different keys, in either order
  pub insert_insert : (a b : A) (l : List A) → key a < key b → insert key a (insert key b l) ≡ insert key b (insert key a l)
  insert_insert a b [] h = rw (lt-ltb (key a) (key b) h, le-ltb (key b) (key a) (omega arith))
  insert_insert a b (x ∷ l) h =
      by_test (ltb (key b) (key x))
      (λ e. let f : ltb (key a) (key x) ≡ true = lt-ltb (key a) (key x) (omega (arith, ltb-true (key b) (key x) e)) in
      simp (e, f, lt-ltb (key a) (key b) h, le-ltb (key b) (key a) (omega arith)))
      (λ e. by_test (ltb (key a) (key x))
      (λ f. simp (e, f, le-ltb (key b) (key a) (omega arith)))
      (λ f. simp (e, f, insert_insert a b l h)))

  -- ---- sorting, one after another

  pub sort_snoc : (acc l : List A) (o : A) → sort_onto key acc (l ++ (o ∷ [])) ≡ insert key o (sort_onto key acc l)
  sort_snoc acc [] o = refl
  sort_snoc acc (x ∷ l) o = sort_snoc (insert key x acc) l o

  pub sort_map : (f : A → A) → ((x : A) → key (f x) ≡ key x) → (acc l : List A) → sort_onto key (map f acc) (map f l) ≡ map f (sort_onto key acc l)
  sort_map f h acc [] = refl
  sort_map f h acc (x ∷ l) = ap (λ (m : List A). sort_onto key m (map f l)) (sym (insert_map f h x acc)) ∙ sort_map f h (insert key x acc) l

  pub sort_keep : (p : A → Bool) (acc l : List A) → Ascending key acc → sort_onto key (keep p acc) (keep p l) ≡ keep p (sort_onto key acc l)
  sort_keep p acc [] s = refl
  sort_keep p acc (x ∷ l) s =
      rw (← (sort_keep p (insert key x acc) l (ascending_insert x acc s)))
      (by_test (p x) (λ e. rw (keep_insert p x acc s, e)) (λ e. rw (keep_insert p x acc s, e)))

  pub any_sort : (p : A → Bool) (acc l : List A) → any p (sort_onto key acc l) ≡ any p acc || any p l
  unfolding any
  any_sort p acc [] = sym (or-false (any p acc))
  any_sort p acc (x ∷ l) =
      rw (any_sort p (insert key x acc) l, any_insert p x acc)
      (or_assoc (p x) (any p acc) (any p l) ∙ or_swap (p x) (any p acc) (any p l))

  pub length_sort : (acc l : List A) → length (sort_onto key acc l) ≡ length acc + length l
  length_sort acc [] = omega arith
  length_sort acc (x ∷ l) = rw (length_sort (insert key x acc) l, length_insert x acc) (omega arith)

  pub greatest_sort : (p : A → Bool) (acc l : List A) → greatest key p (sort_onto key acc l) ≡ max (greatest key p acc) (greatest key p l)
  greatest_sort p acc [] = omega arith
  greatest_sort p acc (x ∷ l) = rw (greatest_sort p (insert key x acc) l, greatest_insert p x acc) (omega arith)

  -- ---- the greatest key

  pub greatest_keep : (p q : A → Bool) (l : List A) → All (λ x. p x ≡ true → q x ≡ true) l → greatest key p (keep q l) ≡ greatest key p l
  greatest_keep p q [] h = refl
  greatest_keep p q (x ∷ l) h =
      by_test (q x)
      (λ e. rw (e, greatest_keep p q l h.1))
      (λ e. rw (e, greatest_keep p q l h.1, fails_with (p x) (q x) h.0 e) (omega arith))

  -- it bounds the keys of those that pass
  pub greatest_bounds : (p : A → Bool) (n : ℕ) (l : List A) → greatest key p l ≤ n → All (λ x. p x ≡ true → key x < n) l
  greatest_bounds p n [] h = tt
  greatest_bounds p n (x ∷ l) h = (λ e. omega (arith, rw e at h), greatest_bounds p n l (omega arith))

  -- and is one of them
  pub greatest_is : (p : A → Bool) (n : ℕ) (l : List A) → greatest key p l ≡ suc n
      → (x : A) × Memᴰ x l × (p x ≡ true) × (key x ≡ n)
  greatest_is p n [] h = absurd (eqb-false 0 (suc n) (eqb-zero-suc n) h)
  greatest_is p n (x ∷ l) h =
      by_eq (greatest key p l) (suc n)
      (λ e. let r = greatest_is p n l e in (r.0, Memᴰ.tail r.1, r.2, r.3))
      (λ ne. by_test (p x)
      (λ f. (x, Memᴰ.head refl, f, omega (arith, ne, rw f at h)))
      (λ f. absurd (ne (omega (arith, rw f at h)))))
