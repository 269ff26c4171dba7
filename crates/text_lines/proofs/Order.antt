-- However the parameter lines are ordered, the same fields have entries; and where no field has two, each has the same value.
-- Assumes nothing.
use Rattle.std.specs.Prelude.{None, Option, Some}
use Prim.Native.Nat.{ℕ, suc, ◌+◌}
use Rattle.text_lines.specs.Entries.{Entry, stands, again, missing, value_at, column}
use Rattle.text_lines.specs.Order.{Perm, done, keep, swap, both}
use Rattle.text.proofs.Tests.{or_parts}
use Rattle.text.specs.Lists.{onto, sift}
use borrow.Author.Tests.{eqb-true, eqb-false, ne_eqb}
use lib.Dec.{eqb}
use mathlib.Core.Bool.{Bool, true, false, ◌||◌, cond}
use mathlib.Core.List.{List, [], ◌∷◌}
use mathlib.Core.Path.{◌≡◌, refl, sym, ap, ap₂, ◌∙◌}

-- ---- entries

-- what stood above, in two orders
abbrev pub Alike : List Entry → List Entry → Type 0
Alike s t = (k : ℕ) → stands k s ≡ stands k t

or_swap : (a b c : Bool) → (a || (b || c)) ≡ (b || (a || c))
or_swap true true c = refl
or_swap true false c = refl
or_swap false true c = refl
or_swap false false c = refl

again_alike : (s t : List Entry) (es : List Entry) → Alike s t → again s es ≡ again t es
unfolding again stands
again_alike s t [] h = refl
again_alike s t (e ∷ es) h =
    ap₂ (λ (b : Bool) (r : Option ℕ). cond b (Some e.at) r) (h e.at)
    (again_alike (e ∷ s) (e ∷ t) es (λ k. ap (λ (b : Bool). eqb k e.at || b) (h k)))

-- no repeat: the test failed here, and there is none below
cond_none : (b : Bool) (k : ℕ) (r : Option ℕ) → cond b (Some k) r ≡ None → (b ≡ false) × (r ≡ None)
cond_none true k r e = (cc, cc)
cond_none false k r e = (refl, e)

value_swap : (k : ℕ) (x y : Entry) (es : List Entry) → eqb y.at x.at ≡ false → value_at k (x ∷ y ∷ es) ≡ value_at k (y ∷ x ∷ es)
unfolding value_at
value_swap k x y es d = go (eqb k x.at) (eqb k y.at) refl refl
  where
    go : (a b : Bool) → eqb k x.at ≡ a → eqb k y.at ≡ b → cond (eqb k x.at) x.value (cond (eqb k y.at) y.value (value_at k es))
        ≡ cond (eqb k y.at) y.value (cond (eqb k x.at) x.value (value_at k es))
    go true true p q = absurd (eqb-false y.at x.at d (sym (eqb-true k y.at q) ∙ eqb-true k x.at p))
    go true false p q = rw (p, q)
    go false true p q = rw (p, q)
    go false false p q = rw (p, q)

stands_swap : (k : ℕ) (x y : Entry) (es : List Entry) → stands k (x ∷ y ∷ es) ≡ stands k (y ∷ x ∷ es)
unfolding stands
stands_swap k x y es = or_swap (eqb k x.at) (eqb k y.at) (stands k es)

eqb_sym : (a b : ℕ) → eqb a b ≡ false → eqb b a ≡ false
eqb_sym a b h = ne_eqb b a (λ e. eqb-false a b h (sym e))

-- what an order of entries does not change
pub record Agree (es fs : List Entry) : Type 0 where
  pub none_twice : (seen : List Entry) → again seen es ≡ None → again seen fs ≡ None
  pub values : (seen : List Entry) → again seen es ≡ None → (k : ℕ) → value_at k es ≡ value_at k fs
  pub there : (k : ℕ) → stands k es ≡ stands k fs

agree_keep : (e : Entry) (es fs : List Entry) → Agree es fs → Agree (e ∷ es) (e ∷ fs)
unfolding again stands value_at
agree_keep e es fs a =
    record {
      none_twice = λ seen h.
          let p = cond_none (stands e.at seen) e.at (again (e ∷ seen) es) h in
          rw p.0 (a.none_twice (e ∷ seen) p.1);
      values = λ seen h k.
          let p = cond_none (stands e.at seen) e.at (again (e ∷ seen) es) h in
          ap (λ (r : List ℕ). cond (eqb k e.at) e.value r) (a.values (e ∷ seen) p.1 k);
      there = λ k. ap (λ (b : Bool). eqb k e.at || b) (a.there k);
    }

-- x above y with no repeat: neither stood above, and they differ
apart : (x y : Entry) (es seen : List Entry) → again seen (x ∷ y ∷ es) ≡ None
    → (stands x.at seen ≡ false) × (eqb y.at x.at ≡ false) × (stands y.at seen ≡ false) × (again (y ∷ x ∷ seen) es ≡ None)
unfolding again stands
apart x y es seen h =
    let p = cond_none (stands x.at seen) x.at (again (x ∷ seen) (y ∷ es)) h in
    let q = cond_none (stands y.at (x ∷ seen)) y.at (again (y ∷ x ∷ seen) es) p.1 in
    let o = or_parts (eqb y.at x.at) (stands y.at seen) q.0 in
    (p.0, o.0, o.1, q.1)

agree_swap : (x y : Entry) (es : List Entry) → Agree (x ∷ y ∷ es) (y ∷ x ∷ es)
unfolding again stands
agree_swap x y es =
    record {
      none_twice = λ seen h.
          let p = apart x y es seen h in
          rw (p.2, eqb_sym y.at x.at p.1, p.0)
          (again_alike (x ∷ y ∷ seen) (y ∷ x ∷ seen) es (λ k. stands_swap k x y seen) ∙ p.3);
      values = λ seen h k. value_swap k x y es (apart x y es seen h).1;
      there = λ k. stands_swap k x y es;
    }

agree_both : (es fs gs : List Entry) → Agree es fs → Agree fs gs → Agree es gs
agree_both es fs gs a b =
    record {
      none_twice = λ seen h. b.none_twice seen (a.none_twice seen h);
      values = λ seen h k. a.values seen h k ∙ b.values seen (a.none_twice seen h) k;
      there = λ k. a.there k ∙ b.there k;
    }

agree_done : Agree [] []
agree_done = record { none_twice = λ seen h. h; values = λ seen h k. refl; there = λ k. refl }

pub agree : {es fs : List Entry} → Perm es fs → Agree es fs
agree done = agree_done
agree (keep e {xs = es} {ys = fs} p) = agree_keep e es fs (agree p)
agree (swap x y es) = agree_swap x y es
agree (both {xs = es} {ys = fs} {zs = gs} p q) = agree_both es fs gs (agree p) (agree q)

-- ---- what is missing depends on the entries by what stands alone, and the column by the values

pub missing_same : (k : ℕ) (ls : List (List ℕ)) (es gs : List Entry) → Alike es gs → missing k ls es ≡ missing k ls gs
unfolding missing
missing_same k [] es gs h = refl
missing_same k (l ∷ ls) es gs h = ap₂ (λ (b : Bool) (n : ℕ). cond b 0 1 + n) (h k) (missing_same (suc k) ls es gs h)

pub column_same : (k : ℕ) (ls : List (List ℕ)) (es gs : List Entry) → ((j : ℕ) → value_at j es ≡ value_at j gs) → column k ls es ≡ column k ls gs
unfolding column
column_same k [] es gs h = refl
column_same k (l ∷ ls) es gs h = ap₂ (λ (v : List ℕ) (vs : List (List ℕ)). v ∷ vs) (h k) (column_same (suc k) ls es gs h)

-- ---- from lines to entries: choosing keeps an order to an order

onto_keep : {B : Type 0} (o : Option B) {xs ys : List B} → Perm xs ys → Perm (onto o xs) (onto o ys)
onto_keep None p = p
onto_keep (Some y) p = keep y p

pub perm_refl : {A : Type 0} (xs : List A) → Perm xs xs
perm_refl [] = done
perm_refl (x ∷ xs) = keep x (perm_refl xs)

onto_swap : {B : Type 0} (o q : Option B) (xs : List B) → Perm (onto o (onto q xs)) (onto q (onto o xs))
onto_swap None None xs = perm_refl xs
onto_swap None (Some y) xs = perm_refl (y ∷ xs)
onto_swap (Some x) None xs = perm_refl (x ∷ xs)
onto_swap (Some x) (Some y) xs = swap x y xs

pub sift_perm : {A B : Type 0} (f : A → Option B) {xs ys : List A} → Perm xs ys → Perm (sift f xs) (sift f ys)
unfolding sift
sift_perm f done = done
sift_perm f (keep x p) = onto_keep (f x) (sift_perm f p)
sift_perm f (swap x y xs) = onto_swap (f x) (f y) (sift f xs)
sift_perm f (both p q) = both (sift_perm f p) (sift_perm f q)
