-- The things that pass a test that knows the place, kept in the first places one by one. Assumes nothing.
use Prim.Native.Nat.{ℕ, suc, ◌+◌, ◌-◌, ◌≤◌, ◌<◌}
use Rattle.book_lists.specs.Keyed.{keep}
use Rattle.book_shelf.specs.Shelf.{packed, thing, keep_at}
use Rattle.text.proofs.Tests.{by_test}
use lib.ListN.{length, take, set, replicate, length-append, length-take}
use lib.Seq.{take-suc, append_snoc, set_at, length-take-le}
use mathlib.Core.Bool.{Bool, true, false, cond}
use mathlib.Core.List.{List, [], ◌∷◌, ◌++◌, append-nil}
use mathlib.Core.Path.{◌≡◌, refl}
use native.Mathlib.Numerals.{add-one}
use native.Mathlib.Omega.{arith}

-- ---- the laws that callers use

module _ {A : Type 0} (q : ℕ → A → Bool) where
  -- of things one after the other
  pub keep_at_append : (i : ℕ) (l m : List A) → keep_at q i (l ++ m) ≡ keep_at q i l ++ keep_at q (i + length l) m
  keep_at_append i [] m = let n : i + 0 ≡ i = omega arith in rw n
  keep_at_append i (x ∷ l) m =
      let n : i + suc (length l) ≡ suc i + length l = omega arith in
      by_test (q i x) (λ e. rw (e, keep_at_append (suc i) l m, n)) (λ e. rw (e, keep_at_append (suc i) l m, n))

  pub length_keep_at : (i : ℕ) (l : List A) → length (keep_at q i l) ≤ length l
  length_keep_at i [] = omega arith
  length_keep_at i (x ∷ l) =
      let r = length_keep_at (suc i) l in
      by_test (q i x) (λ e. rw e (omega arith)) (λ e. rw e (omega arith))

  -- a test that does not look at the place, of the places from i up to j
  pub keep_at_keep : (p : A → Bool) (i j : ℕ) (l : List A) → i + length l ≤ j
      → ((k : ℕ) (x : A) → i ≤ k → k < j → q k x ≡ p x) → keep_at q i l ≡ keep p l
  keep_at_keep p i j [] h e = refl
  keep_at_keep p i j (x ∷ l) h e =
      rw (e i x (omega arith) (omega (arith, h)), keep_at_keep p (suc i) j l (omega (arith, h)) (λ k y a b. e k y (omega (arith, a)) b))

  -- of the first `count`
  pub keep_at_first : (p : A → Bool) (count : ℕ) (l : List A) → ((k : ℕ) (x : A) → k < count → q k x ≡ p x)
      → keep_at q 0 (take count l) ≡ keep p (take count l)
  keep_at_first p count l e = keep_at_keep p 0 count (take count l) (omega (arith, length-take count l)) (λ k x a b. e k x b)

-- ---- a loop that keeps: in `size` places, those of the first i that pass

-- `past` is what a read past the end would give, which need not be an empty place
module _ {A : Type 0} (none past : A) (size : ℕ) (q : ℕ → A → Bool) where
  more : (i : ℕ) (l : List A) → i < length l
      → keep_at q 0 (take (i + 1) l) ≡ keep_at q 0 (take i l) ++ cond (q i (thing past i l)) (thing past i l ∷ []) []
  more i l h =
      let n : 0 + length (take i l) ≡ i = omega (arith, length-take-le i l (omega (arith, h))) in
      rw (add-one i, take-suc l i past h, keep_at_append q 0 (take i l) (thing past i l ∷ []), n)

  few : (i : ℕ) (l : List A) → length (keep_at q 0 (take i l)) ≤ i
  few i l = omega (arith, length_keep_at q 0 (take i l), length-take i l)

  -- one more, into the first empty place
  packed_set : (k : List A) (x : A) → length k < size → set (packed none size k) (length k) x ≡ packed none size (k ++ (x ∷ []))
  packed_set k x h =
      let s : size - length k ≡ suc (size - (length k + 1)) = omega (arith, h) in
      rw (s, set_at k none (replicate (size - (length k + 1)) none) x (length k) refl, length-append k (x ∷ []), append_snoc)

  pub record Passed (i kept : ℕ) (l out : List A) : Type 0 where
    pub count_is : kept ≡ length (keep_at q 0 (take i l))
    pub places : out ≡ packed none size (keep_at q 0 (take i l))

  pub begin : (l : List A) → Passed 0 0 l (replicate size none)
  begin l = let e : size - 0 ≡ size = omega arith in record { count_is = refl; places = rw e }

  module _ (i kept : ℕ) (l out : List A) (p : Passed i kept l out) where
    -- there is room for one more
    pub room : kept ≤ i
    room = omega (arith, p.count_is, few i l)

    pub keeps : i < length l → i < size → q i (thing past i l) ≡ true → Passed (i + 1) (kept + 1) l (set out kept (thing past i l))
    keeps h k e =
        record {
          count_is = rw (more i l h, e, length-append) (omega (arith, p.count_is));
          places = rw (more i l h, e, p.places, p.count_is) (packed_set (keep_at q 0 (take i l)) (thing past i l) (omega (arith, few i l, k)));
        }

    pub leaves : i < length l → q i (thing past i l) ≡ false → Passed (i + 1) kept l out
    leaves h e =
        record {
          count_is = rw (more i l h, e, append-nil) p.count_is;
          places = rw (more i l h, e, append-nil) p.places;
        }
