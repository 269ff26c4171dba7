-- Runs at the front of a text: the loop that counts one, and a line that should be a run and then its end.
-- Assumes nothing.
use Prim.Native.Nat.{ℕ, zero, suc, ◌+◌, ◌≤◌, ◌<◌}
use Rattle.std.specs.List.{prefix_len, take_while}
use Rattle.text.proofs.Cuts.{skip_here, skip_none, skip_length, all_none}
use Rattle.text.proofs.Tests.{by_test, and_parts, or_parts, same_if, eqb_tells, itself}
use Rattle.text.specs.Bytes.{is, upto, any, all, skip, run_of}
use borrow.Author.Tests.{eq-eqb, ne_eqb}
use lib.Dec.{eqb}
use lib.ListN.{length, get_or, take, drop, length-drop, length-take, drop_of_length-le}
use lib.Seq.{drop-cons}
use mathlib.Core.Bool.{Bool, true, false, not, ◌||◌, true≢false}
use mathlib.Core.List.{List, [], ◌∷◌, ◌++◌}
use mathlib.Core.Path.{◌≡◌, refl, sym, ap, ◌∙◌}
use native.Mathlib.Numerals.{add-one}
use native.Mathlib.Omega.{arith}

-- ---- the loop: once the run is skipped, the whole and what was not looked at yet come to the same

module _ (p : ℕ → Bool) (s : List ℕ) (i : ℕ) (so_far : skip p s ≡ skip p (drop i s)) where
  pub run_here : i < length s → p (get_or s i 0) ≡ false → i ≡ run_of p s
  run_here h e = omega (arith, ap length (so_far ∙ skip_here p 0 s i h e), length-drop i s)

  pub run_end : i ≤ length s → length s ≤ i → i ≡ run_of p s
  run_end h k = omega (arith, ap length (so_far ∙ skip_none p s i k))

-- ---- what a run tells

module _ (p : ℕ → Bool) where
  run_yes : (x : ℕ) (t : List ℕ) → p x ≡ true → run_of p (x ∷ t) ≡ suc (run_of p t)
  unfolding skip
  run_yes x t y = rw y (omega (arith, skip_length p t))

  run_no : (x : ℕ) (t : List ℕ) → p x ≡ false → run_of p (x ∷ t) ≡ 0
  unfolding skip
  run_no x t n = rw n (omega arith)

  full : (t : List ℕ) → run_of p t ≡ length t → all p t ≡ true
  unfolding all
  full [] e = refl
  full (x ∷ t) e =
      by_test (p x) (λ y. rw y (full t (omega (arith, run_yes x t y)))) (λ n. absurd (omega (arith, run_no x t n)))

  of_all : (t : List ℕ) → all p t ≡ true → run_of p t ≡ length t
  unfolding all skip
  of_all [] h = refl
  of_all (x ∷ t) h =
      let o = and_parts (p x) (all p t) h in
      omega (arith, run_yes x t o.0, of_all t o.1)

  -- all are of the run where it is as long as the text
  pub run_all : (t : List ℕ) → eqb (run_of p t) (length t) ≡ all p t
  run_all t = same_if (eqb_tells (run_of p t) (length t)) (itself (all p t)) (full t) (of_all t)

  pub run_front : (m : ℕ) (t : List ℕ) → m ≡ run_of p t → all p (take m t) ≡ true
  unfolding all
  run_front zero t e = refl
  run_front (suc m) [] e = refl
  run_front (suc m) (x ∷ t) e =
      by_test (p x) (λ y. rw y (run_front m t (omega (arith, run_yes x t y)))) (λ n. absurd (omega (arith, run_no x t n)))

  -- within the run
  pub run_holds : (m : ℕ) (t : List ℕ) → m < run_of p t → p (get_or t m 0) ≡ true
  unfolding skip
  run_holds m [] h = absurd (omega arith)
  run_holds zero (x ∷ t) h = by_test (p x) (λ y. y) (λ n. absurd (omega (arith, run_no x t n)))
  run_holds (suc m) (x ∷ t) h =
      by_test (p x) (λ y. run_holds m t (omega (arith, run_yes x t y))) (λ n. absurd (omega (arith, run_no x t n)))

  -- ---- a line that should be a run and then its end, b

  module _ (b : ℕ) (end : p b ≡ false) where
    other : (x : ℕ) → p x ≡ true → eqb x b ≡ false
    other x y = ne_eqb x b (λ e. true≢false (sym y ∙ ap p e ∙ end))

    -- the line is as long as the run at least
    pub run_within : (t : List ℕ) → run_of p t ≤ length (upto (is b) t)
    unfolding upto skip
    run_within [] = omega arith
    run_within (x ∷ t) =
        by_test (p x) (λ y. let h = run_within t in rw (other x y) (omega (arith, run_yes x t y)))
        (λ n. omega (arith, run_no x t n))

    -- b is not reached
    pub run_open : (t : List ℕ) → run_of p t ≡ length t → any (is b) t ≡ false
    run_open t e = all_none (is b) p other t (full t e)

    -- the run is the line
    pub run_line : (m : ℕ) (t : List ℕ) → m ≡ run_of p t → m < length t → get_or t m 0 ≡ b → (upto (is b) t ≡ take m t) × (any (is b) t ≡ true)
    unfolding upto any
    run_line m [] e h g = absurd (omega arith)
    run_line zero (x ∷ t) e h g = rw (eq-eqb x b g) (refl, refl)
    run_line (suc m) (x ∷ t) e h g =
        by_test (p x)
        (λ y. let r = run_line m t (omega (arith, run_yes x t y)) (omega arith) g in rw (other x y) (ap (λ (l : List ℕ). x ∷ l) r.0, r.1))
        (λ n. absurd (omega (arith, run_no x t n)))

    -- the line, wherever it ends, is more than the run
    pub run_more : (m : ℕ) (t : List ℕ) → m ≡ run_of p t → m < length t → (get_or t m 0 ≡ b → ⊥) → all p (upto (is b) t) ≡ false
    unfolding upto all
    run_more m [] e h g = absurd (omega arith)
    run_more zero (x ∷ t) e h g =
        by_test (p x) (λ y. absurd (omega (arith, run_yes x t y))) (λ n. rw (ne_eqb x b g, n))
    run_more (suc m) (x ∷ t) e h g =
        by_test (p x) (λ y. rw (other x y, y) (run_more m t (omega (arith, run_yes x t y)) (omega arith) g))
        (λ n. absurd (omega (arith, run_no x t n)))

-- ---- a test of one at least, one step along the list

pub any_step : {A : Type 0} (p : A → Bool) (d : A) (s : List A) (i : ℕ) → i < length s → any p (drop i s) ≡ (p (get_or s i d) || any p (drop (i + 1) s))
unfolding any
any_step p d s i h = rw (add-one, drop-cons s i d h)

pub any_end : {A : Type 0} (p : A → Bool) (s : List A) (i : ℕ) → length s ≤ i → any p (drop i s) ≡ false
unfolding any
any_end p s i h = rw (drop_of_length-le s h)

any_both : {A : Type 0} (p : A → Bool) (a b : List A) → any p (a ++ b) ≡ (any p a || any p b)
unfolding any
any_both p [] b = refl
any_both p (x ∷ a) b = by_test (p x) (λ e. rw e) (λ e. rw e (any_both p a b))

-- ---- past a part that p holds nowhere of

module _ {A : Type 0} (p : A → Bool) where
  pub upto_past : (a v : List A) → any p a ≡ false → upto p (a ++ v) ≡ a ++ upto p v
  unfolding any upto
  upto_past [] v n = refl
  upto_past (x ∷ a) v n =
      let o = or_parts (p x) (any p a) n in
      rw o.0 (ap (λ (l : List A). x ∷ l) (upto_past a v o.1))

  pub any_past : (a v : List A) → any p a ≡ false → any p (a ++ v) ≡ any p v
  any_past a v n = any_both p a v ∙ rw n

-- ---- a run, counted

run_prefix : (p : ℕ → Bool) (s : List ℕ) → prefix_len p s ≡ run_of p s
unfolding skip
run_prefix p [] = refl
run_prefix p (x ∷ s) =
    by_test (p x)
    (λ e. rw e (omega (arith, run_prefix p s, skip_length p s)))
    (λ e. rw e (omega arith))

-- what is taken while p holds is the run
pub run_taken : (p : ℕ → Bool) (s : List ℕ) → length (take_while p s) ≡ run_of p s
run_taken p s = omega (arith, run_prefix p s, length-take (prefix_len p s) s)

pub taken_length : (p : ℕ → Bool) (s : List ℕ) → length (take_while p s) ≤ length s
taken_length p s = omega (arith, length-take (prefix_len p s) s)

-- i bytes of the run, and how many of the rest are of it
pub run_on : (p : ℕ → Bool) (s : List ℕ) (i r : ℕ) → i ≤ length s → skip p s ≡ skip p (drop i s) → r ≡ length (take_while p (drop i s)) → i + r ≡ run_of p s
run_on p s i r h so_far e =
    omega (arith, e, run_taken p (drop i s), ap length so_far, length-drop i s, skip_length p (drop i s))

-- the run of p is what stands before the first of q, where p is what is not q
pub run_before : (p q : ℕ → Bool) → ((x : ℕ) → p x ≡ not (q x)) → (s : List ℕ) → run_of p s ≡ length (upto q s)
unfolding skip upto
run_before p q f [] = refl
run_before p q f (x ∷ s) =
    by_test (q x)
    (λ e. let n : p x ≡ false = f x ∙ rw e in rw (e, n) (omega arith))
    (λ e. let y : p x ≡ true = f x ∙ rw e in rw (e, y) (omega (arith, run_before p q f s, skip_length p s)))
