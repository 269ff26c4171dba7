-- Entries with one more at their end: what stands, the values, the first repeat; the lines with one more; and the place of a label.
-- Assumes nothing.
use Rattle.std.specs.Prelude.{None, Option, Some}
use Prim.Native.Nat.{ℕ, zero, suc, ◌+◌, ◌≤◌, ◌<◌}
use Rattle.text_lines.specs.Entries.{Entry, place_of, stands, again, standing, missing, value_at}
use Rattle.text_lines.specs.Lines.{Marked, if_inside, if_outside}
use Rattle.text_lines.specs.Mask.{trues}
use Rattle.text.proofs.Tests.{by_test, or_right}
use Rattle.text.specs.Bytes.{same}
use Rattle.text.specs.Lists.{count, onto, sift}
use borrow.Author.Tests.{eqb-true, eq-eqb, ne_eqb}
use lib.Dec.{eqb, eqb-suc-zero}
use lib.ListN.{length, get_or, set, drop, drop_of_length-le}
use lib.Seq.{drop-cons}
use mathlib.Core.Bool.{Bool, true, false, ◌||◌, cond, false≢true}
use mathlib.Core.List.{List, [], ◌∷◌, ◌++◌}
use mathlib.Core.Path.{◌≡◌, refl, sym, ap, ap₂, ◌∙◌}
use native.Mathlib.Numerals.{add-one}
use native.Mathlib.Omega.{arith}

or_none : (b : Bool) → (b || false) ≡ b
or_none true = refl
or_none false = refl

-- ---- an entry more

pub stands_snoc : (k : ℕ) (es : List Entry) (e : Entry) → stands k (es ++ e ∷ []) ≡ (stands k es || eqb k e.at)
unfolding stands
stands_snoc k [] e = or_none (eqb k e.at)
stands_snoc k (x ∷ es) e =
    ap (λ (b : Bool). eqb k x.at || b) (stands_snoc k es e) ∙ or_assoc (eqb k x.at) (stands k es) (eqb k e.at)
  where
    or_assoc : (a b c : Bool) → (a || (b || c)) ≡ ((a || b) || c)
    or_assoc true b c = refl
    or_assoc false b c = refl

-- a field that stood: nothing new stands
pub stands_yes : (k : ℕ) (es : List Entry) (e : Entry) → stands e.at es ≡ true → stands k (es ++ e ∷ []) ≡ stands k es
stands_yes k es e h =
    stands_snoc k es e
    ∙ by_test (eqb k e.at) (λ t. let z : stands k es ≡ true = ap (λ (n : ℕ). stands n es) (eqb-true k e.at t) ∙ h in rw z)
    (λ t. rw t (or_none (stands k es)))

pub stands_other : (k : ℕ) (es : List Entry) (e : Entry) → eqb k e.at ≡ false → stands k (es ++ e ∷ []) ≡ stands k es
stands_other k es e c = stands_snoc k es e ∙ rw c (or_none (stands k es))

-- the value is the first
pub value_old : (k : ℕ) (es : List Entry) (e : Entry) → stands k es ≡ true → value_at k (es ++ e ∷ []) ≡ value_at k es
unfolding stands value_at
value_old k [] e h = absurd (false≢true h)
value_old k (x ∷ es) e h = by_test (eqb k x.at) (λ t. rw t) (λ t. rw t (value_old k es e (rw t at h)))

pub value_new : (k : ℕ) (es : List Entry) (e : Entry) → stands k es ≡ false → eqb k e.at ≡ true → value_at k (es ++ e ∷ []) ≡ e.value
unfolding stands value_at
value_new k [] e h t = rw t
value_new k (x ∷ es) e h t =
    by_test (eqb k x.at) (λ u. absurd (false≢true (sym (rw u at h)))) (λ u. rw u (value_new k es e (rw u at h) t))

-- the first of two
abbrev pub first : Option ℕ → Option ℕ → Option ℕ
first None o = o
first (Some k) o = Some k

-- the first repeat: the old one, or the new entry's, where it stood above
again_snoc : (seen es : List Entry) (e : Entry)
    → again seen (es ++ e ∷ []) ≡ first (again seen es) (cond (stands e.at seen || stands e.at es) (Some e.at) None)
unfolding again stands
again_snoc seen [] e = ap (λ (b : Bool). cond b (Some e.at) None) (sym (or_none (stands e.at seen)))
again_snoc seen (x ∷ es) e =
    by_test (stands x.at seen) (λ t. rw t)
    (λ t.
    rw t
    (again_snoc (x ∷ seen) es e
    ∙ ap (λ (b : Bool). first (again (x ∷ seen) es) (cond b (Some e.at) None)) (or_move (eqb e.at x.at) (stands e.at seen) (stands e.at es))))
  where
    or_move : (a b c : Bool) → ((a || b) || c) ≡ (b || (a || c))
    or_move true true c = refl
    or_move true false c = refl
    or_move false b c = refl

-- where it stood above
pub again_yes : (es : List Entry) (e : Entry) → stands e.at es ≡ true → again [] (es ++ e ∷ []) ≡ first (again [] es) (Some e.at)
unfolding stands
again_yes es e h = again_snoc [] es e ∙ rw h

pub again_no : (es : List Entry) (e : Entry) → stands e.at es ≡ false → again [] (es ++ e ∷ []) ≡ again [] es
unfolding stands
again_no es e h = again_snoc [] es e ∙ rw h (first_none (again [] es))
  where
    first_none : (o : Option ℕ) → first o None ≡ o
    first_none None = refl
    first_none (Some k) = refl

-- ---- of each field, whether it stands

pub trues_missing : (k : ℕ) (ls : List (List ℕ)) (es : List Entry) → missing k ls es + trues (standing k ls es) ≡ length ls
unfolding missing standing count
trues_missing k [] es = refl
trues_missing k (l ∷ ls) es =
    let h = trues_missing (suc k) ls es in
    by_test (stands k es) (λ t. rw t (omega arith)) (λ t. rw t (omega arith))

pub standing_length : (k : ℕ) (ls : List (List ℕ)) (es : List Entry) → length (standing k ls es) ≡ length ls
unfolding standing
standing_length k [] es = refl
standing_length k (l ∷ ls) es = ap suc (standing_length (suc k) ls es)

pub standing_at : (k : ℕ) (ls : List (List ℕ)) (es : List Entry) (j : ℕ) → j < length ls → get_or (standing k ls es) j false ≡ stands (k + j) es
unfolding standing
standing_at k [] es j h = absurd (omega (arith, h))
standing_at k (l ∷ ls) es zero h = let n : k ≡ k + 0 = omega arith in ap (λ (m : ℕ). stands m es) n
standing_at k (l ∷ ls) es (suc j) h =
    let n : suc k + j ≡ k + suc j = omega arith in
    let m : j < length ls = omega (arith, h) in
    standing_at (suc k) ls es j m ∙ ap (λ (m : ℕ). stands m es) n

standing_same : (k : ℕ) (ls : List (List ℕ)) (es gs : List Entry) → ((j : ℕ) → k ≤ j → stands j es ≡ stands j gs) → standing k ls es ≡ standing k ls gs
unfolding standing
standing_same k [] es gs h = refl
standing_same k (l ∷ ls) es gs h =
    ap₂ (λ (b : Bool) (bs : List Bool). b ∷ bs) (h k (omega arith)) (standing_same (suc k) ls es gs (λ j m. h j (omega arith)))

-- an entry more, of a field that stood, and of the j-th field from k on
pub standing_old : (k : ℕ) (ls : List (List ℕ)) (es : List Entry) (e : Entry) → stands e.at es ≡ true → standing k ls (es ++ e ∷ []) ≡ standing k ls es
standing_old k ls es e h = standing_same k ls (es ++ e ∷ []) es (λ j m. stands_yes j es e h)

pub standing_new : (k : ℕ) (ls : List (List ℕ)) (es : List Entry) (e : Entry) (j : ℕ) → e.at ≡ k + j
    → standing k ls (es ++ e ∷ []) ≡ set (standing k ls es) j true
unfolding standing
standing_new k [] es e j h = refl
standing_new k (l ∷ ls) es e zero h =
    ap₂ (λ (b : Bool) (bs : List Bool). b ∷ bs)
    (stands_snoc k es e ∙ or_right (stands k es) (eqb k e.at) (eq-eqb k e.at (omega (arith, h))))
    (standing_same (suc k) ls (es ++ e ∷ []) es (λ j m. stands_other j es e (ne_eqb j e.at (λ q. omega (arith, h, m, q)))))
standing_new k (l ∷ ls) es e (suc j) h =
    ap₂ (λ (b : Bool) (bs : List Bool). b ∷ bs) (stands_other k es e (ne_eqb k e.at (λ q. omega (arith, h, q))))
    (standing_new (suc k) ls es e j (omega (arith, h)))

-- ---- a line more

pub sift_snoc : {A B : Type 0} (g : A → Option B) (xs : List A) (x : A) → sift g (xs ++ x ∷ []) ≡ sift g xs ++ onto (g x) []
unfolding sift
sift_snoc g [] x = refl
sift_snoc {B = B} g (y ∷ xs) x = ap (onto (g y)) (sift_snoc g xs x) ∙ onto_append (g y)
  where
    onto_append : (o : Option B) → onto o (sift g xs ++ onto (g x) []) ≡ onto o (sift g xs) ++ onto (g x) []
    onto_append None = refl
    onto_append (Some z) = refl

-- the first of a list with one more
pub first_old : (xs : List (List ℕ)) (t : List ℕ) → (length xs ≡ 0 → ⊥) → get_or (xs ++ t ∷ []) 0 [] ≡ get_or xs 0 []
first_old [] t h = absurd (h refl)
first_old (x ∷ xs) t h = refl

pub first_new : (xs : List (List ℕ)) (t : List ℕ) → length xs ≡ 0 → get_or (xs ++ t ∷ []) 0 [] ≡ t
first_new [] t h = refl
first_new (x ∷ xs) t h = absurd (omega (arith, h))

-- a line is between the separators, or outside
module _ (m : Marked) where
  pub inside_here : m.above ≡ 1 → onto (if_inside m) [] ≡ m.text ∷ []
  unfolding if_inside
  inside_here e = rw e

  pub inside_not : (m.above ≡ 1 → ⊥) → onto (if_inside m) [] ≡ []
  unfolding if_inside
  inside_not e = rw (ne_eqb m.above 1 e)

  pub outside_here : (m.above ≡ 1 → ⊥) → onto (if_outside m) [] ≡ m.text ∷ []
  unfolding if_outside
  outside_here e = rw (ne_eqb m.above 1 e)

  pub outside_not : m.above ≡ 1 → onto (if_outside m) [] ≡ []
  unfolding if_outside
  outside_not e = rw e

-- ---- the place of a label

-- what one label more in front makes of a place
abbrev pushed : ℕ → ℕ
pushed n = cond (eqb n 0) 0 (suc n)

pushed_cases : (n m : ℕ) → pushed n ≡ suc m → (n ≡ m) × (0 < m)
pushed_cases zero m h = absurd (omega (arith, h))
pushed_cases (suc n) m h = let z : suc (suc n) ≡ suc m = rw (eqb-suc-zero n) at h in (omega arith, omega arith)

pub place_le : (ls : List (List ℕ)) (t : List ℕ) → place_of ls t ≤ length ls
unfolding place_of
place_le [] t = omega arith
place_le (l ∷ ls) t = by_test (same l t) (λ e. rw e (omega arith)) (λ e. rw e (step (place_of ls t) (place_le ls t)))
  where
    step : (n : ℕ) → n ≤ length ls → cond (eqb n 0) 0 (suc n) ≤ suc (length ls)
    step zero h = omega arith
    step (suc n) h = rw (eqb-suc-zero n) (omega arith)

pub place_at : (ls : List (List ℕ)) (t : List ℕ) (k : ℕ) → place_of ls t ≡ suc k → same (get_or ls k []) t ≡ true
unfolding place_of
place_at [] t k h = absurd (omega (arith, h))
place_at (l ∷ ls) t zero h =
    by_test (same l t) (λ e. e) (λ e. absurd (omega (arith, (pushed_cases (place_of ls t) 0 (rw e at h)).1)))
place_at (l ∷ ls) t (suc k) h =
    by_test (same l t) (λ e. let z : 1 ≡ suc (suc k) = rw e at h in absurd (omega (arith, z)))
    (λ e. place_at ls t k (pushed_cases (place_of ls t) (suc k) (rw e at h)).0)

-- with i labels passed, the place in all of them from the place in the rest
abbrev pub later : ℕ → ℕ → ℕ
later i zero = 0
later i (suc n) = i + suc n

pub later_zero : (n : ℕ) → n ≡ later 0 n
later_zero zero = refl
later_zero (suc n) = omega arith

module _ (ls : List (List ℕ)) (t : List ℕ) (i : ℕ) (h : i < length ls) where
  pub place_here : same (get_or ls i []) t ≡ true → i + 1 ≡ later i (place_of (drop i ls) t)
  unfolding place_of
  place_here e = rw (drop-cons ls i [] h, e)

  pub place_on : same (get_or ls i []) t ≡ false → later i (place_of (drop i ls) t) ≡ later (i + 1) (place_of (drop (i + 1) ls) t)
  unfolding place_of
  place_on e = rw (add-one, drop-cons ls i [] h, e) (step (place_of (drop (suc i) ls) t))
    where
      step : (n : ℕ) → later i (pushed n) ≡ later (suc i) n
      step zero = refl
      step (suc n) = rw (eqb-suc-zero n) (omega arith)

pub place_end : (ls : List (List ℕ)) (t : List ℕ) (i : ℕ) → length ls ≤ i → 0 ≡ later i (place_of (drop i ls) t)
unfolding place_of
place_end ls t i h = rw (drop_of_length-le ls h)
