-- What holds of every thing of a list, and the laws of `keep`: the things that pass a test. Assumes nothing.
use Prim.Native.Nat.{ℕ, ◌≤◌}
use Rattle.book_lists.specs.Keyed.{keep, insert}
use Rattle.text.proofs.Tests.{by_test, itself, untold, or_parts}
use Rattle.text.specs.Bytes.{any}
use lib.Dec.{ltb}
use lib.ListN.{length}
use mathlib.Core.Bool.{Bool, true, false, true≢false}
use mathlib.Core.List.{List, [], ◌∷◌, ◌++◌, map}
use mathlib.Core.Path.{◌≡◌, refl, sym, ◌∙◌}
use native.Mathlib.Omega.{arith}

-- a test that fails, where what it would tell is refused by another
pub fails_with : (a b : Bool) → (a ≡ true → b ≡ true) → b ≡ false → a ≡ false
fails_with a b h e = untold (itself a) (λ t. true≢false (sym (h t) ∙ e))

-- ---- every thing of a list

module _ {A : Type 0} (P : A → Type 0) where
  abbrev pub All : List A → Type 0
  All [] = Unit {0}
  All (x ∷ l) = P x × All l

  pub all_of : ((x : A) → P x) → (l : List A) → All l
  all_of h [] = tt
  all_of h (x ∷ l) = (h x, all_of h l)

  pub all_keep : (p : A → Bool) (l : List A) → All l → All (keep p l)
  all_keep p [] a = tt
  all_keep p (x ∷ l) a = by_test (p x) (λ e. rw e (a.0, all_keep p l a.1)) (λ e. rw e (all_keep p l a.1))

  pub all_insert : (key : A → ℕ) (o : A) (l : List A) → P o → All l → All (insert key o l)
  all_insert key o [] h a = (h, tt)
  all_insert key o (x ∷ l) h a = by_test (ltb (key o) (key x)) (λ e. rw e (h, a)) (λ e. rw e (a.0, all_insert key o l h a.1))

  pub all_map : (f : A → A) → ((x : A) → P x → P (f x)) → (l : List A) → All l → All (map f l)
  all_map f h [] a = tt
  all_map f h (x ∷ l) a = (h x a.0, all_map f h l a.1)

-- what is kept passes the test
pub all_kept : {A : Type 0} (p : A → Bool) (l : List A) → All (λ (x : A). p x ≡ true) (keep p l)
all_kept p [] = tt
all_kept p (x ∷ l) = by_test (p x) (λ e. rw e (e, all_kept p l)) (λ e. rw e (all_kept p l))

pub all_weaker : {A : Type 0} (P Q : A → Type 0) → ((x : A) → P x → Q x) → (l : List A) → All P l → All Q l
all_weaker P Q h [] a = tt
all_weaker P Q h (x ∷ l) a = (h x a.0, all_weaker P Q h l a.1)

-- ---- the things that pass a test

module _ {A : Type 0} where
  pub keep_append : (p : A → Bool) (l m : List A) → keep p (l ++ m) ≡ keep p l ++ keep p m
  keep_append p [] m = refl
  keep_append p (x ∷ l) m = by_test (p x) (λ e. rw (e, keep_append p l m)) (λ e. rw (e, keep_append p l m))

  -- a change that the test does not see
  pub keep_map : (p : A → Bool) (f : A → A) → ((x : A) → p (f x) ≡ p x) → (l : List A) → keep p (map f l) ≡ map f (keep p l)
  keep_map p f h [] = refl
  keep_map p f h (x ∷ l) = by_test (p x) (λ e. rw (h x, e, keep_map p f h l)) (λ e. rw (h x, e, keep_map p f h l))

  -- a change of only what the test drops
  pub keep_hidden : (p : A → Bool) (f : A → A) → ((x : A) → p (f x) ≡ p x) → ((x : A) → p x ≡ true → f x ≡ x) → (l : List A)
      → keep p (map f l) ≡ keep p l
  keep_hidden p f h i [] = refl
  keep_hidden p f h i (x ∷ l) = by_test (p x) (λ e. rw (h x, e, i x e, keep_hidden p f h i l)) (λ e. rw (h x, e, keep_hidden p f h i l))

  pub keep_comm : (p q : A → Bool) (l : List A) → keep p (keep q l) ≡ keep q (keep p l)
  keep_comm p q [] = refl
  keep_comm p q (x ∷ l) =
      by_test (p x)
      (λ e. by_test (q x) (λ f. simp (e, f, keep_comm p q l)) (λ f. simp (e, f, keep_comm p q l)))
      (λ e. by_test (q x) (λ f. simp (e, f, keep_comm p q l)) (λ f. simp (e, f, keep_comm p q l)))

  -- a second test that passes what the first does
  pub keep_keep : (p q : A → Bool) → ((x : A) → p x ≡ true → q x ≡ true) → (l : List A) → keep p (keep q l) ≡ keep p l
  keep_keep p q h [] = refl
  keep_keep p q h (x ∷ l) =
      by_test (q x)
      (λ e. rw (e, keep_keep p q h l))
      (λ e. rw (e, keep_keep p q h l, fails_with (p x) (q x) (h x) e))

  pub any_keep : (p q : A → Bool) → ((x : A) → p x ≡ true → q x ≡ true) → (l : List A) → any p (keep q l) ≡ any p l
  unfolding any
  any_keep p q h [] = refl
  any_keep p q h (x ∷ l) =
      by_test (q x)
      (λ e. rw (e, any_keep p q h l))
      (λ e. rw (e, any_keep p q h l, fails_with (p x) (q x) (h x) e))

  -- where q finds nothing, and finds all that p drops
  pub keep_all : (p q : A → Bool) → ((x : A) → q x ≡ false → p x ≡ true) → (l : List A) → any q l ≡ false → keep p l ≡ l
  unfolding any
  keep_all p q h [] e = refl
  keep_all p q h (x ∷ l) e = let s = or_parts (q x) (any q l) e in rw (h x s.0, keep_all p q h l s.1)

  pub length_keep : (p : A → Bool) (l : List A) → length (keep p l) ≤ length l
  length_keep p [] = omega arith
  length_keep p (x ∷ l) = by_test (p x) (λ e. rw e (omega (arith, length_keep p l))) (λ e. rw e (omega (arith, length_keep p l)))
