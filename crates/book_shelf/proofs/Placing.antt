-- A thing put in at a place: where it stands among the others, and how those move up one by one. Assumes nothing.
use Prim.Native.Nat.{ℕ, zero, suc, ◌-◌, ◌≤◌, ◌<◌}
use Rattle.book_lists.proofs.Sorting.{length_insert}
use Rattle.book_lists.specs.Keyed.{insert}
use Rattle.book_shelf.proofs.Ranks.{rank_within}
use Rattle.book_shelf.specs.Shelf.{packed, thing, put_in, rank_of, is_held_at}
use Rattle.text.proofs.Tests.{by_test}
use Rattle.text.specs.Bytes.{upto}
use borrow.Author.Tests.{leb-true, leb-false, le-ltb, lt-ltb, eqb-false}
use lib.Dec.{eqb, leb, ltb, leb-suc-suc}
use lib.ListN.{length, take, drop, set, replicate, take-append-drop, get_or-append}
use lib.Seq.{take-suc, drop-cons, drop-drop, length-take-le, append_snoc, set_at, drop_at, take-take, get_or-take, slice_empty, slice-cons}
use mathlib.Core.Bool.{false, ◌&&◌}
use mathlib.Core.List.{List, [], ◌∷◌, ◌++◌, append_assoc}
use mathlib.Core.Path.{◌≡◌, refl, sym, ap, ◌∙◌}
use native.Mathlib.Numerals.{add-one}
use native.Mathlib.Omega.{arith}

-- ---- a thing put in

module _ {A : Type 0} (key : A → ℕ) (past : A) where
  -- one that is not held goes in at its key's rank
  pub insert_ranked : (o : A) (h : List A) → is_held_at key past (key o) (rank_of key (key o) h) h ≡ false
      → insert key o h ≡ take (rank_of key (key o) h) h ++ (o ∷ drop (rank_of key (key o) h) h)
  unfolding rank_of upto is_held_at
  insert_ranked o [] e = refl
  insert_ranked o (x ∷ h) e =
      by_test (leb (key o) (key x))
      (λ q.
      let z : eqb (key x) (key o) ≡ false = rw (q, lt-ltb 0 (suc (length h)) (omega arith)) at e in
      let n : key x ≡ key o → ⊥ = eqb-false (key x) (key o) z in
      rw (q, lt-ltb (key o) (key x) (omega (arith, leb-true (key o) (key x) q, n))))
      (λ q.
      let z : (ltb (rank_of key (key o) h) (length h) && eqb (key (thing past (rank_of key (key o) h) h)) (key o)) ≡ false =
      rw (q, leb-suc-suc (suc (rank_of key (key o) h)) (length h)) at e in
      rw (q, le-ltb (key o) (key x) (omega (arith, leb-false (key o) (key x) q))) (ap (λ (m : List A). x ∷ m) (insert_ranked o h z)))

-- the places after those that are filled
pub rest_packed : {A : Type 0} (none : A) (size count : ℕ) (l : List A) → count ≤ length l → l ≡ packed none size (take count l)
    → drop count l ≡ replicate (size - count) none
rest_packed none size count l c e =
    let s : length (take count l) ≡ count = length-take-le count l c in
    ap (drop count) e ∙ rw s (drop_at (take count l) (replicate (size - count) none) count s)

-- put in at its key's rank, where it is not held and there is room, it stands among the others
module _ {A : Type 0} (key : A → ℕ) (past none : A) (size : ℕ) where
  pub put_packed : (count : ℕ) (o : A) (l : List A) → length l ≡ size → l ≡ packed none size (take count l) → count < size
      → is_held_at key past (key o) (rank_of key (key o) (take count l)) (take count l) ≡ false
      → put_in (rank_of key (key o) (take count l)) count o l ≡ packed none size (insert key o (take count l))
  unfolding put_in
  put_packed count o l w e c t =
      let c' : count ≤ length l = omega (arith, w, c) in
      let at : ℕ = rank_of key (key o) (take count l) in
      let s : length (take count l) ≡ count = length-take-le count l c' in
      let n : size - count ≡ suc (size - suc count) = omega (arith, c) in
      let d : drop (suc count) l ≡ replicate (size - suc count) none =
      sym (ap (λ (k : ℕ). drop k l) (add-one count)) ∙ sym (drop-drop 1 count l) ∙ ap (drop 1) (rest_packed none size count l c' e)
      ∙ ap (λ (k : ℕ). drop 1 (replicate k none)) n in
      rw (length_insert key o (take count l), s, insert_ranked key past o (take count l) t, take-take at count l (rank_within key (key o) count l), d)
      (sym (append_assoc (take at l) (o ∷ drop at (take count l)) (replicate (size - suc count) none)))

-- ---- the loop of put_in: the places from `count` down to i hold those from before them, and the place i still what stood there

module _ {A : Type 0} (past : A) where
  -- a store at the place
  put_set : (i count : ℕ) (x y : A) (l : List A) → i ≤ length l → set (put_in i count x l) i y ≡ put_in i count y l
  unfolding put_in
  put_set i count x y l h = set_at (take i l) x (drop i (take count l) ++ drop (suc count) l) y i (length-take-le i l h)

  -- what stands before it
  put_before : (i count : ℕ) (x : A) (l : List A) → i < length l → thing past i (put_in (suc i) count x l) ≡ thing past i l
  unfolding put_in
  put_before i count x l h =
      get_or-append (take (suc i) l) (x ∷ (drop (suc i) (take count l) ++ drop (suc count) l)) past i (omega (arith, length-take-le (suc i) l h))
      ∙ get_or-take (suc i) l i past (omega arith)

  -- the same thing in two places next to each other
  put_twice : (i count : ℕ) (l : List A) → i < count → count ≤ length l → put_in (suc i) count (thing past i l) l ≡ put_in i count (thing past i l) l
  unfolding put_in
  put_twice i count l h c =
      rw (take-suc l i past (omega (arith, h, c)), slice-cons i count l past h c)
      (append_snoc (take i l) (thing past i l) (thing past i l ∷ (drop (suc i) (take count l) ++ drop (suc count) l)))

  -- nothing has moved
  pub put_start : (count : ℕ) (l : List A) → count < length l → l ≡ put_in count count (thing past count l) l
  unfolding put_in
  put_start count l h =
      rw (slice_empty count l) (sym (take-append-drop count l) ∙ ap (λ (m : List A). take count l ++ m) (drop-cons l count past h))

  -- one more has
  pub put_turn : (i count : ℕ) (l m : List A) → 0 < i → i ≤ count → count < length l → m ≡ put_in i count (thing past i l) l
      → set m i (thing past (i - 1) m) ≡ put_in (i - 1) count (thing past (i - 1) l) l
  put_turn zero count l m p h c e = absurd (omega (arith, p))
  put_turn (suc i) count l m p h c e =
      let n : suc i - 1 ≡ i = omega arith in
      let a : thing past i m ≡ thing past i l = ap (thing past i) e ∙ put_before i count (thing past (suc i) l) l (omega (arith, h, c)) in
      rw (n, a, e) (put_set (suc i) count (thing past (suc i) l) (thing past i l) l (omega (arith, h, c)) ∙ put_twice i count l h (omega (arith, c)))

  -- the last store
  pub put_end : (at i count : ℕ) (o : A) (l m : List A) → at ≤ i → i ≤ at → at ≤ length l → m ≡ put_in i count (thing past i l) l
      → set m at o ≡ put_in at count o l
  put_end at i count o l m p q h e =
      let n : i ≡ at = omega (arith, p, q) in
      rw (e, n) (put_set at count (thing past at l) o l h)
