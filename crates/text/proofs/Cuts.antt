-- The definitions that cut or test a list, one step along it: what a loop over a slice goes by.
-- Assumes nothing.
use Prim.Native.Nat.{ℕ, zero, suc, ◌+◌, ◌-◌, ◌≤◌, ◌<◌}
use Rattle.text.proofs.Tests.{by_test, and_parts, or_parts, or_right}
use Rattle.text.specs.Bytes.{part, same, upto, past, any, all, skip, starts}
use borrow.Author.Tests.{eq-eqb, ne_eqb, eqb-true}
use lib.Dec.{eqb}
use lib.ListN.{length, get_or, take, drop, length-append, length-drop, length-take, drop_of_length-le, take-append-drop}
use lib.Seq.{drop-cons, drop-append_seam, get_or-take, take_all, drop-drop, take-take, take-nil}
use mathlib.Core.Bool.{Bool, true, false, ◌&&◌, ◌||◌, and_assoc, and-true, and-false, or_assoc, or-false, false≢true}
use mathlib.Core.List.{List, [], ◌∷◌, ◌++◌, append-nil}
use mathlib.Core.Path.{◌≡◌, refl, sym, ap, ap₂, ◌∙◌}
use native.Mathlib.Nat.{le_refl, add-zero, sub-zero, suc-sub-suc, zero-sub}
use native.Mathlib.Numerals.{add-one}
use native.Mathlib.Omega.{arith}

-- ---- parts

pub drop_step : (s : List ℕ) (i : ℕ) → i < length s → drop i s ≡ get_or s i 0 ∷ drop (i + 1) s
drop_step s i h = rw add-one (drop-cons s i 0 h)

-- `&s[a..]`, as the borrow checker states it
pub tail : {A : Type 0} (s : List A) (a : ℕ) → take (length s - a) (drop a s) ≡ drop a s
tail s a = take_all (length s - a) (drop a s) (rw length-drop (le_refl (length s - a)))

-- the count of `&t[..e]`
pub front_count : {A : Type 0} (t : List A) (e : ℕ) → e ≤ length t → e ≡ length (take e t)
front_count t e h = omega (arith, length-take e t)

pub length_part : {A : Type 0} (a e : ℕ) (s : List A) → e ≤ length s → length (part a e s) ≡ e - a
length_part a e s h = omega (arith, length-take (e - a) (drop a s), length-drop a s)

drop_take : {A : Type 0} (a n : ℕ) (l : List A) → drop a (take n l) ≡ take (n - a) (drop a l)
drop_take zero n l = rw sub-zero
drop_take (suc a) zero l = rw zero-sub
drop_take (suc a) (suc n) [] = sym (take-nil (suc n - suc a))
drop_take (suc a) (suc n) (x ∷ l) = rw suc-sub-suc (drop_take a n l)

-- a part of a part: from a on, and of e elements
pub part_from : {A : Type 0} (s : List A) (at end a : ℕ) → drop a (part at end s) ≡ part (at + a) end s
part_from {A = A} s at end a =
    let n : end - at - a ≡ end - (at + a) = omega arith in
    drop_take a (end - at) (drop at s) ∙ ap₂ (λ (k : ℕ) (l : List A). take k l) n (drop-drop a at s)

pub part_front : {A : Type 0} (s : List A) (at end e : ℕ) → at + e ≤ end → take e (part at end s) ≡ part at (at + e) s
part_front s at end e h =
    let n : e ≡ at + e - at = omega arith in
    take-take e (end - at) (drop at s) (omega arith) ∙ ap (λ (k : ℕ). take k (drop at s)) n

-- what stands from i on is its next k elements and what follows those
drop_over : {A : Type 0} (s : List A) (i k : ℕ) → drop i s ≡ part i (i + k) s ++ drop (i + k) s
drop_over s i k =
    let n : i + k - i ≡ k = omega arith in
    rw (n, ← drop-drop k i s) (sym (take-append-drop k (drop i s)))

-- n elements from i + k on, one by one
module _ {A : Type 0} (d : A) (s : List A) (i : ℕ) where
  abbrev pub each : ℕ → ℕ → List A
  each zero k = []
  each (suc n) k = get_or s (i + k) d ∷ each n (suc k)

  pub take_each : (n k : ℕ) → i + k + n ≤ length s → take n (drop (i + k) s) ≡ each n k
  take_each zero k h = refl
  take_each (suc n) k h =
      let m : suc (i + k) ≡ i + suc k = omega arith in
      let g : i + k < length s = omega arith in
      rw (drop-cons s (i + k) d g, m) (ap (λ (l : List A). get_or s (i + k) d ∷ l) (take_each n (suc k) (omega arith)))

  pub eight : i + 8 ≤ length s → part i (i + 8) s ≡ get_or s i d ∷ each 7 1
  eight h =
      let m : i + 8 - i ≡ 8 = omega arith in
      rw m (rw add-zero at (take_each 8 0 (omega arith)))

  pub four : i + 4 ≤ length s → part i (i + 4) s ≡ get_or s i d ∷ each 3 1
  four h =
      let m : i + 4 - i ≡ 4 = omega arith in
      rw m (rw add-zero at (take_each 4 0 (omega arith)))

-- ---- one step at an index

module _ {A : Type 0} (p : A → Bool) (d : A) (s : List A) (i : ℕ) (h : i < length s) where
  pub upto_here : p (get_or s i d) ≡ true → upto p (drop i s) ≡ []
  unfolding upto
  upto_here e = rw (drop-cons s i d, e)

  pub upto_on : p (get_or s i d) ≡ false → upto p (drop i s) ≡ get_or s i d ∷ upto p (drop (i + 1) s)
  unfolding upto
  upto_on e = rw (add-one, drop-cons s i d, e)

  pub skip_here : p (get_or s i d) ≡ false → skip p (drop i s) ≡ drop i s
  unfolding skip
  skip_here e = rw (drop-cons s i d, e)

  pub skip_on : p (get_or s i d) ≡ true → skip p (drop i s) ≡ skip p (drop (i + 1) s)
  unfolding skip
  skip_on e = rw (add-one, drop-cons s i d, e)

  pub all_here : p (get_or s i d) ≡ false → all p (drop i s) ≡ false
  unfolding all
  all_here e = rw (drop-cons s i d, e)

  pub all_on : p (get_or s i d) ≡ true → all p (drop i s) ≡ all p (drop (i + 1) s)
  unfolding all
  all_on e = rw (add-one, drop-cons s i d, e)

pub upto_end : {A : Type 0} (p : A → Bool) (s : List A) (i : ℕ) → length s ≤ i → upto p (drop i s) ≡ []
unfolding upto
upto_end p s i h = rw (drop_of_length-le s h)

pub skip_none : {A : Type 0} (p : A → Bool) (s : List A) (i : ℕ) → length s ≤ i → skip p (drop i s) ≡ []
unfolding skip
skip_none p s i h = rw (drop_of_length-le s h)

pub all_end : {A : Type 0} (p : A → Bool) (s : List A) (i : ℕ) → length s ≤ i → all p (drop i s) ≡ true
unfolding all
all_end p s i h = rw (drop_of_length-le s h)

-- eight tests, as one
pub all_eight : {A : Type 0} (p : A → Bool) (d : A) (s : List A) (i : ℕ) → i + 8 ≤ length s
    → (p (get_or s i d)
    && p (get_or s (i + 1) d)
    && p (get_or s (i + 2) d)
    && p (get_or s (i + 3) d)
    && p (get_or s (i + 4) d)
    && p (get_or s (i + 5) d)
    && p (get_or s (i + 6) d)
    && p (get_or s (i + 7) d))
    ≡ all p (part i (i + 8) s)
unfolding all
all_eight p d s i h = rw (eight d s i h) (simp (and_assoc, and-true))

pub any_eight : {A : Type 0} (p : A → Bool) (d : A) (s : List A) (i : ℕ) → i + 8 ≤ length s
    → (p (get_or s i d)
    || p (get_or s (i + 1) d)
    || p (get_or s (i + 2) d)
    || p (get_or s (i + 3) d)
    || p (get_or s (i + 4) d)
    || p (get_or s (i + 5) d)
    || p (get_or s (i + 6) d)
    || p (get_or s (i + 7) d))
    ≡ any p (part i (i + 8) s)
unfolding any
any_eight p d s i h = rw (eight d s i h) (simp (or_assoc, or-false))

-- eight tests of eight elements, as one
pub all_of_eight : {A : Type 0} (p : A → Bool) (d : A) (s : List A) → length s ≡ 8
    → (p (get_or s 0 d)
    && p (get_or s 1 d)
    && p (get_or s 2 d)
    && p (get_or s 3 d)
    && p (get_or s 4 d)
    && p (get_or s 5 d)
    && p (get_or s 6 d)
    && p (get_or s 7 d))
    ≡ all p s
unfolding all
all_of_eight p d s h =
    let e : s ≡ get_or s 0 d ∷ each d s 0 7 1 = sym (take_all 8 s (omega arith)) ∙ eight d s 0 (omega arith) in
    ◌∙◌ {b = all p (get_or s 0 d ∷ each d s 0 7 1)} (simp (and_assoc, and-true)) (ap (all p) (sym e))

-- ---- the first n of a list, one by one

module _ {A : Type 0} (p : A → Bool) (d : A) (n : ℕ) (s : List A) (i : ℕ) (h : i < length s) (k : i < n) where
  short : i < length (take n s)
  short = rw length-take (omega arith)

  pub front_here : p (get_or s i d) ≡ false → all p (drop i (take n s)) ≡ false
  front_here e = all_here p d (take n s) i short (rw (get_or-take n s i d k) e)

  pub front_on : p (get_or s i d) ≡ true → all p (drop i (take n s)) ≡ all p (drop (i + 1) (take n s))
  front_on e = all_on p d (take n s) i short (rw (get_or-take n s i d k) e)

-- none is left of the n, or of the list
pub front_done : {A : Type 0} (p : A → Bool) (n : ℕ) (s : List A) (i : ℕ) → n ≤ i → all p (drop i (take n s)) ≡ true
front_done p n s i h = all_end p (take n s) i (rw length-take (omega arith))

pub front_end : {A : Type 0} (p : A → Bool) (n : ℕ) (s : List A) (i : ℕ) → length s ≤ i → all p (drop i (take n s)) ≡ true
front_end p n s i h = all_end p (take n s) i (rw length-take (omega arith))

-- ---- what is cut off, by its place

module _ {A : Type 0} (p : A → Bool) where
  pub upto_take : (s : List A) → upto p s ≡ take (length (upto p s)) s
  unfolding upto
  upto_take [] = refl
  upto_take (x ∷ s) = by_test (p x) (λ e. rw e) (λ e. rw e (ap (λ (l : List A). x ∷ l) (upto_take s)))

  pub past_drop : (s : List A) → past p s ≡ drop (length (upto p s) + 1) s
  unfolding upto past
  past_drop [] = refl
  past_drop (x ∷ s) = by_test (p x) (λ e. rw e) (λ e. rw (e, add-one) (past_drop s ∙ rw add-one))

  pub upto_length : (s : List A) → length (upto p s) ≤ length s
  unfolding upto
  upto_length [] = omega arith
  upto_length (x ∷ s) = by_test (p x) (λ e. rw e (omega arith)) (λ e. let r = upto_length s in rw e (omega arith))

  pub skip_length : (s : List A) → length (skip p s) ≤ length s
  unfolding skip
  skip_length [] = omega arith
  skip_length (x ∷ s) =
      by_test (p x) (λ e. let r = skip_length s in rw e (omega arith)) (λ e. rw e (omega arith))

  -- what is skipped, by its length
  pub skip_drop : (s : List A) → skip p s ≡ drop (length s - length (skip p s)) s
  unfolding skip
  skip_drop [] = refl
  skip_drop (x ∷ s) =
      by_test (p x)
      (λ e. let n : suc (length s) - length (skip p s) ≡ suc (length s - length (skip p s)) = omega (arith, skip_length s) in rw (e, n) (skip_drop s))
      (λ e. let n : suc (length s) - suc (length s) ≡ 0 = omega arith in rw (e, n))

  -- ---- at a seam

  -- past what p always is
  pub skip_append : (a b : List A) → all p a ≡ true → skip p (a ++ b) ≡ skip p b
  unfolding all skip
  skip_append [] b h = refl
  skip_append (x ∷ a) b h = let o = and_parts (p x) (all p a) h in rw o.0 (skip_append a b o.1)

  -- k at a time
  pub skip_over : (s : List A) (i k : ℕ) → all p (part i (i + k) s) ≡ true → skip p (drop i s) ≡ skip p (drop (i + k) s)
  skip_over s i k h = ap (skip p) (drop_over s i k) ∙ skip_append (part i (i + k) s) (drop (i + k) s) h

  -- past what p never is
  pub upto_append : (a b : List A) → any p a ≡ false → upto p (a ++ b) ≡ a ++ upto p b
  unfolding any upto
  upto_append [] b n = refl
  upto_append (x ∷ a) b n =
      let o = or_parts (p x) (any p a) n in
      rw o.0 (ap (λ (l : List A). x ∷ l) (upto_append a b o.1))

  -- k at a time, by the count
  pub upto_over : (s : List A) (i k : ℕ) → i + k ≤ length s → any p (part i (i + k) s) ≡ false
      → length (upto p (drop i s)) ≡ k + length (upto p (drop (i + k) s))
  upto_over s i k h n =
      let e = ap (upto p) (drop_over s i k) ∙ upto_append (part i (i + k) s) (drop (i + k) s) n in
      omega (arith, ap length e, length-append (part i (i + k) s) (upto p (drop (i + k) s)), length_part i (i + k) s h)

  pub upto_seam : (a : List A) (c : A) (v : List A) → any p a ≡ false → p c ≡ true → upto p (a ++ c ∷ v) ≡ a
  unfolding upto
  upto_seam a c v n h = upto_append a (c ∷ v) n ∙ rw h (append-nil a)

  pub past_seam : (a : List A) (c : A) (v : List A) → any p a ≡ false → p c ≡ true → past p (a ++ c ∷ v) ≡ v
  unfolding any past
  past_seam [] c v n h = rw h
  past_seam (x ∷ a) c v n h = let o = or_parts (p x) (any p a) n in rw o.0 (past_seam a c v o.1 h)

  pub any_seam : (a : List A) (c : A) (v : List A) → p c ≡ true → any p (a ++ c ∷ v) ≡ true
  unfolding any
  any_seam [] c v h = rw h
  any_seam (x ∷ a) c v h = or_right (p x) (any p (a ++ c ∷ v)) (any_seam a c v h)

  -- where it stands nowhere, all is before it
  pub upto_all : (a : List A) → any p a ≡ false → upto p a ≡ a
  unfolding upto
  upto_all a n = ap (upto p) (sym (append-nil a)) ∙ upto_append a [] n ∙ append-nil a

  pub any_append : (a b : List A) → any p a ≡ false → any p b ≡ false → any p (a ++ b) ≡ false
  unfolding any
  any_append [] b h k = k
  any_append (x ∷ a) b h k = let o = or_parts (p x) (any p a) h in rw o.0 (any_append a b o.1 k)

  all_cut : (a b : List A) → all p (a ++ b) ≡ (all p a && all p b)
  unfolding all
  all_cut [] b = refl
  all_cut (x ∷ a) b = by_test (p x) (λ e. rw e (all_cut a b)) (λ e. rw e)

  pub all_append : (a b : List A) → all p a ≡ true → all p b ≡ true → all p (a ++ b) ≡ true
  all_append a b h k = all_cut a b ∙ rw (h, k)

  -- k at a time
  all_next : (s : List A) (i k : ℕ) → all p (drop i s) ≡ (all p (part i (i + k) s) && all p (drop (i + k) s))
  all_next s i k = ap (all p) (drop_over s i k) ∙ all_cut (part i (i + k) s) (drop (i + k) s)

  pub all_stop : (s : List A) (i k : ℕ) → all p (part i (i + k) s) ≡ false → all p (drop i s) ≡ false
  all_stop s i k h = all_next s i k ∙ rw h

  pub all_over : (s : List A) (i k : ℕ) → all p (part i (i + k) s) ≡ true → all p (drop i s) ≡ all p (drop (i + k) s)
  all_over s i k h = all_next s i k ∙ rw h

  -- all of q, which p never is, so none of p
  pub all_none : (q : A → Bool) → ((x : A) → q x ≡ true → p x ≡ false) → (a : List A) → all q a ≡ true → any p a ≡ false
  unfolding any all
  all_none q f [] h = refl
  all_none q f (x ∷ a) h =
      let o = and_parts (q x) (all q a) h in
      rw (f x o.0) (all_none q f a o.1)

  -- all of q, which always is p
  pub all_weaker : (q : A → Bool) → ((x : A) → q x ≡ true → p x ≡ true) → (a : List A) → all q a ≡ true → all p a ≡ true
  unfolding all
  all_weaker q f [] h = refl
  all_weaker q f (x ∷ a) h =
      let o = and_parts (q x) (all q a) h in
      rw (f x o.0) (all_weaker q f a o.1)

-- what stands from i on is a, of k elements, and then b
module _ {A : Type 0} (s : List A) (i k : ℕ) (a b : List A) (e : drop i s ≡ a ++ b) (n : length a ≡ k) where
  pub chunk_rest : b ≡ drop (i + k) s
  chunk_rest = sym (drop-append_seam a b) ∙ rw (n, ← e) (drop-drop k i s)

  pub chunk_within : i ≤ length s → i + k ≤ length s
  chunk_within h = omega (arith, ap length e, length-append a b, length-drop i s)

  pub chunk_skipped : (p : A → Bool) → all p a ≡ true → skip p (drop i s) ≡ skip p (drop (i + k) s)
  chunk_skipped p h = rw (← chunk_rest, e) (skip_append p a b h)

-- ---- two texts, byte by byte

pub same_refl : (s : List ℕ) → same s s ≡ true
unfolding same
same_refl [] = refl
same_refl (x ∷ s) = rw (eq-eqb x x refl) (same_refl s)

pub same_true : (s t : List ℕ) → same s t ≡ true → s ≡ t
unfolding same
same_true [] [] e = refl
same_true [] (y ∷ t) e = absurd (false≢true e)
same_true (x ∷ s) [] e = absurd (false≢true e)
same_true (x ∷ s) (y ∷ t) e =
    let p = and_parts (eqb x y) (same s t) e in
    ap₂ (λ (a : ℕ) (l : List ℕ). a ∷ l) (eqb-true x y p.0) (same_true s t p.1)

pub same_lengths : (a b : List ℕ) → (length a ≡ length b → ⊥) → false ≡ same a b
unfolding same
same_lengths [] [] n = absurd (n refl)
same_lengths [] (y ∷ b) n = refl
same_lengths (x ∷ a) [] n = refl
same_lengths (x ∷ a) (y ∷ b) n =
    let r = same_lengths a b (λ e. n (ap suc e)) in
    by_test (eqb x y) (λ e. rw e r) (λ e. rw e)

module _ (a b : List ℕ) (i : ℕ) (h : i < length a) (k : i < length b) where
  pub same_here : (get_or a i 0 ≡ get_or b i 0 → ⊥) → same (drop i a) (drop i b) ≡ false
  unfolding same
  same_here n = rw (drop_step a i h, drop_step b i k, ne_eqb _ _ n)

  pub same_on : get_or a i 0 ≡ get_or b i 0 → same (drop i a) (drop i b) ≡ same (drop (i + 1) a) (drop (i + 1) b)
  unfolding same
  same_on e = rw (drop_step a i h, drop_step b i k, eq-eqb _ _ e)

-- eight tests of two texts, as one
pub same_eight : (a b : List ℕ) (i : ℕ) → i + 8 ≤ length a → i + 8 ≤ length b
    → (eqb (get_or a i 0) (get_or b i 0)
    && eqb (get_or a (i + 1) 0) (get_or b (i + 1) 0)
    && eqb (get_or a (i + 2) 0) (get_or b (i + 2) 0)
    && eqb (get_or a (i + 3) 0) (get_or b (i + 3) 0)
    && eqb (get_or a (i + 4) 0) (get_or b (i + 4) 0)
    && eqb (get_or a (i + 5) 0) (get_or b (i + 5) 0)
    && eqb (get_or a (i + 6) 0) (get_or b (i + 6) 0)
    && eqb (get_or a (i + 7) 0) (get_or b (i + 7) 0))
    ≡ same (part i (i + 8) a) (part i (i + 8) b)
unfolding same
same_eight a b i h k = rw (eight 0 a i h, eight 0 b i k) (simp (and_assoc, and-true))

-- two texts are the same where their first k bytes are, and what follows those
pub same_cut : (k : ℕ) (a b : List ℕ) → same a b ≡ (same (take k a) (take k b) && same (drop k a) (drop k b))
unfolding same
same_cut zero a b = refl
same_cut (suc k) [] [] = refl
same_cut (suc k) [] (y ∷ b) = refl
same_cut (suc k) (x ∷ a) [] = refl
same_cut (suc k) (x ∷ a) (y ∷ b) = by_test (eqb x y) (λ e. rw e (same_cut k a b)) (λ e. rw e)

-- where what follows i decides, so does what follows an earlier j: what is compared twice is the same twice
pub same_back : (a b : List ℕ) (j i : ℕ) → j ≤ i → same a b ≡ same (drop i a) (drop i b) → same a b ≡ same (drop j a) (drop j b)
same_back a b j i h e =
    let n : j + (i - j) ≡ i = omega arith in
    let past : (s : List ℕ) → drop i s ≡ drop (i - j) (drop j s) = λ s. sym (drop-drop (i - j) j s ∙ rw n) in
    by_test (same (drop j a) (drop j b))
    (λ t. e ∙ rw (past a, past b, same_true (drop j a) (drop j b) t) (same_refl (drop (i - j) (drop j b))) ∙ sym t)
    (λ f. same_cut j a b ∙ rw f (and-false (same (take j a) (take j b))) ∙ sym f)

pub same_end : (a b : List ℕ) (i : ℕ) → length a ≤ i → length a ≡ length b → same (drop i a) (drop i b) ≡ true
unfolding same
same_end a b i h e =
    let k : length b ≤ i = omega arith in
    rw (drop_of_length-le a h, drop_of_length-le b k)

-- ---- the first n of two texts, from i on

module _ (a b : List ℕ) (n i k : ℕ) (h : i + k ≤ n) where
  next : (s : List ℕ) → take k (drop i (take n s)) ≡ part i (i + k) s
  next s = ap (take k) (drop_take i n s) ∙ part_front s i n k h

  -- the next k of them, and what follows those
  alike_cut : same (drop i (take n a)) (drop i (take n b))
      ≡ (same (part i (i + k) a) (part i (i + k) b) && same (drop (i + k) (take n a)) (drop (i + k) (take n b)))
  alike_cut =
      same_cut k (drop i (take n a)) (drop i (take n b)) ∙ rw (next a, next b, drop-drop k i (take n a), drop-drop k i (take n b))

  pub alike_stop : same (part i (i + k) a) (part i (i + k) b) ≡ false → same (drop i (take n a)) (drop i (take n b)) ≡ false
  alike_stop e = alike_cut ∙ rw e

  pub alike_next : same (part i (i + k) a) (part i (i + k) b) ≡ true
      → same (drop i (take n a)) (drop i (take n b)) ≡ same (drop (i + k) (take n a)) (drop (i + k) (take n b))
  alike_next e = alike_cut ∙ rw e

module _ (a b : List ℕ) (n i : ℕ) (ha : n ≤ length a) (hb : n ≤ length b) where
  pub alike_here : i < n → (get_or a i 0 ≡ get_or b i 0 → ⊥) → same (drop i (take n a)) (drop i (take n b)) ≡ false
  alike_here h e =
      same_here (take n a) (take n b) i (rw length-take (omega arith)) (rw length-take (omega arith)) (rw (get_or-take n a i 0 h, get_or-take n b i 0 h) e)

  pub alike_on : i < n → get_or a i 0 ≡ get_or b i 0
      → same (drop i (take n a)) (drop i (take n b)) ≡ same (drop (i + 1) (take n a)) (drop (i + 1) (take n b))
  alike_on h e =
      same_on (take n a) (take n b) i (rw length-take (omega arith)) (rw length-take (omega arith)) (rw (get_or-take n a i 0 h, get_or-take n b i 0 h) e)

  pub alike_end : n ≤ i → same (drop i (take n a)) (drop i (take n b)) ≡ true
  alike_end h =
      same_end (take n a) (take n b) i (rw length-take (omega arith)) (omega (arith, length-take n a, length-take n b))

-- the last k of them decide, where all before a later i are the same
pub alike_last : (a b : List ℕ) (n i k : ℕ) → k ≤ n → n - k ≤ i → same (take n a) (take n b) ≡ same (drop i (take n a)) (drop i (take n b))
    → same (part (n - k) (n - k + k) a) (part (n - k) (n - k + k) b) ≡ same (take n a) (take n b)
alike_last a b n i k h l e =
    let m : n - (n - k) ≡ n - k + k - (n - k) = omega arith in
    sym (same_back (take n a) (take n b) (n - k) i l e ∙ rw (drop_take (n - k) n a, drop_take (n - k) n b, m))

-- ---- a text that begins with another

pub starts_same : (t s : List ℕ) → starts t s ≡ same t (take (length t) s)
unfolding starts same
starts_same [] s = refl
starts_same (x ∷ t) [] = refl
starts_same (x ∷ t) (y ∷ s) = by_test (eqb x y) (λ e. rw e (starts_same t s)) (λ e. rw e)

pub starts_short : (t s : List ℕ) → length s < length t → false ≡ starts t s
unfolding starts
starts_short [] s h = absurd (omega (arith, h))
starts_short (x ∷ t) [] h = refl
starts_short (x ∷ t) (y ∷ s) h =
    let k : length s < length t = omega (arith, h) in
    let r = starts_short t s k in
    by_test (eqb x y) (λ e. rw e r) (λ e. rw e)

-- one after the other
pub starts_append : (a b s : List ℕ) → starts (a ++ b) s ≡ (starts a s && starts b (drop (length a) s))
unfolding starts
starts_append [] b s = refl
starts_append (x ∷ a) b [] = refl
starts_append (x ∷ a) b (y ∷ s) = by_test (eqb x y) (λ e. rw e (starts_append a b s)) (λ e. rw e)

-- it is the one text, and then the rest
pub starts_cut : (t s : List ℕ) → starts t s ≡ true → s ≡ t ++ drop (length t) s
unfolding starts
starts_cut [] s e = refl
starts_cut (x ∷ t) [] e = absurd (false≢true e)
starts_cut (x ∷ t) (y ∷ s) e =
    let p = and_parts (eqb x y) (starts t s) e in
    ap₂ (λ (a : ℕ) (l : List ℕ). a ∷ l) (sym (eqb-true x y p.0)) (starts_cut t s p.1)

pub starts_length : (t s : List ℕ) → starts t s ≡ true → length t ≤ length s
unfolding starts
starts_length [] s e = omega arith
starts_length (x ∷ t) [] e = absurd (false≢true e)
starts_length (x ∷ t) (y ∷ s) e =
    let r = starts_length t s (and_parts (eqb x y) (starts t s) e).1 in
    omega arith
