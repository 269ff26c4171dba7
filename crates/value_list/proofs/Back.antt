-- ROUND TRIP: a list that is written reads back as itself, for any element whose text reads back, by induction over the list.
-- Assumes nothing.
use Rattle.std.specs.Prelude.{None, Option, Some}
use Prim.Native.Nat.{ℕ, zero, suc, ◌≤◌}
use Rattle.value_list.proofs.Cuts.{cut_none, cut_some}
use Rattle.value_list.specs.Forms.{Each}
use Rattle.value_list.specs.Lists.{cut_at, cons_read, every_of, counted, some_of, run_text, list_text}
use Rattle.text.proofs.Cuts.{upto_seam, past_seam, any_seam, all_none, all_append}
use Rattle.text.proofs.Tests.{and_parts}
use Rattle.text.proofs.Trims.{trim_none}
use Rattle.text.specs.Bytes.{any, all, is, trim, within}
use borrow.Author.Tests.{eq-eqb, ne_eqb, le-leb, leb-true}
use lib.Dec.{leb}
use lib.ListN.{length, get_or, take}
use mathlib.Core.Bool.{Bool, true, false, cond, true≢false}
use mathlib.Core.List.{List, [], ◌∷◌, ◌++◌, append-nil}
use mathlib.Core.Path.{◌≡◌, refl, sym, ap, ◌∙◌}
use native.Mathlib.Omega.{arith}

-- a byte of a kind is no byte that is not
pub never : (p : ℕ → Bool) (b : ℕ) → p b ≡ false → (x : ℕ) → p x ≡ true → is b x ≡ false
never p b f x h = ne_eqb x b (λ e. true≢false (sym h ∙ ap p e ∙ f))

-- the bytes of a list are those of its elements, and the separator
module _ {A : Type 0} (text : A → List ℕ) (sep : ℕ) (p : ℕ → Bool) (y : p sep ≡ true) (plain : (a : A) → all p (text a) ≡ true) where
  run_bytes : (l : List A) → all p (run_text text sep l) ≡ true
  unfolding all run_text
  run_bytes [] = refl
  run_bytes (a ∷ l) = rw y (all_append p (text a) (run_text text sep l) (plain a) (run_bytes l))

  pub list_bytes : (l : List A) → all p (list_text text sep l) ≡ true
  unfolding all list_text
  list_bytes [] = refl
  list_bytes (a ∷ l) = all_append p (text a) (run_text text sep l) (plain a) (run_bytes l)

module _ {A : Type 0} (read : List ℕ → Option A) (text : A → List ℕ) (Good : A → Type 0) (p : ℕ → Bool) (sep : ℕ)
    (no_sep : p sep ≡ false) (no_blank : p 32 ≡ false)
    (plain : (a : A) → all p (text a) ≡ true) (back : (a : A) → Good a → read (text a) ≡ Some a) where
  none_of : (b : ℕ) → p b ≡ false → (a : A) → any (is b) (text a) ≡ false
  none_of b f a = all_none (is b) p (never p b f) (text a) (plain a)

  trim_back : (a : A) → Good a → read (trim (text a)) ≡ Some a
  trim_back a g = rw (trim_none (text a) (none_of 32 no_blank a)) (back a g)

  cut_seam : (a : A) (t : List ℕ) → cut_at sep (text a ++ sep ∷ t) ≡ text a ∷ cut_at sep t
  cut_seam a t =
      let y : is sep sep ≡ true = eq-eqb sep sep refl in
      let n = none_of sep no_sep a in
      cut_some sep (text a ++ sep ∷ t) (any_seam (is sep) (text a) sep t y)
      ∙ rw (upto_seam (is sep) (text a) sep t n y, past_seam (is sep) (text a) sep t n y)

  rest_back : (a : A) (l : List A) → Good a → Each Good l → every_of read (cut_at sep (text a ++ run_text text sep l)) ≡ Some (a ∷ l)
  unfolding Each every_of cons_read run_text
  rest_back a [] g gs = rw (append-nil (text a), cut_none sep (text a) (none_of sep no_sep a), trim_back a g)
  rest_back a (b ∷ l) g gs =
      rw (cut_seam a (text b ++ run_text text sep l), trim_back a g, rest_back b l gs.0 gs.1)

  pub list_back : (least most : ℕ) (l : List A) → 1 ≤ length l → least ≤ length l → length l ≤ most → Each Good l
      → some_of read sep least most (list_text text sep l) ≡ Some l
  unfolding Each list_text some_of counted
  list_back least most [] h lo hi g = absurd (omega arith)
  list_back least most (a ∷ l) h lo hi g = rw (rest_back a l g.0 g.1, le-leb _ _ lo, le-leb _ _ hi)

-- ---- what holds of each element

pub each_take : {A : Type 0} (P : A → Type 0) (n : ℕ) (l : List A) → Each P l → Each P (take n l)
unfolding Each
each_take P zero l h = tt
each_take P (suc n) [] h = tt
each_take P (suc n) (a ∷ l) h = (h.0, each_take P n l h.1)

pub each_at : {A : Type 0} (P : A → Type 0) (l : List A) (i : ℕ) (z : A) → Each P l → P z → P (get_or l i z)
unfolding Each
each_at P [] i z h d = d
each_at P (a ∷ l) zero z h d = h.0
each_at P (a ∷ l) (suc i) z h d = each_at P l i z h.1 d

-- ---- what is told by a list that was read

-- all parts are read, and they are as many as may be
pub record Counted {A : Type 0} (read : List ℕ → Option A) (sep least most : ℕ) (s : List ℕ) (l : List A) : Type 0 where
  pub all_parts : every_of read (cut_at sep s) ≡ Some l
  pub enough : least ≤ length l
  pub few : length l ≤ most

pub list_counted : {A : Type 0} (read : List ℕ → Option A) (sep least most : ℕ) (s : List ℕ) (l : List A) → some_of read sep least most s ≡ Some l
    → Counted read sep least most s l
unfolding some_of counted
list_counted {A} read sep least most s l e = go (every_of read (cut_at sep s)) refl e
  where
    bounds : (t : Bool) (m : List A) → cond t (Some m) None ≡ Some l → (t ≡ true) × (m ≡ l)
    bounds true m e = (refl, cc)
    bounds false m e = let z : ◌≡◌ {A = ℕ} 0 1 = cc in absurd (omega arith)

    go : (r : Option (List A)) → every_of read (cut_at sep s) ≡ r → counted least most r ≡ Some l → Counted read sep least most s l
    go None g e = let z : ◌≡◌ {A = ℕ} 0 1 = cc in absurd (omega arith)
    go (Some m) g e =
        let b = bounds (within least most (length m)) m e in
        let w = and_parts (leb least (length m)) (leb (length m) most) b.0 in
        let n = ap length b.1 in
        record {
          all_parts = g ∙ ap Some b.1;
          enough = omega (arith, leb-true least (length m) w.0, n);
          few = omega (arith, leb-true (length m) most w.1, n);
        }

module _ {A : Type 0} (read : List ℕ → Option A) (Good : A → Type 0) (good : (t : List ℕ) (a : A) → read t ≡ Some a → Good a) where
  every_good : (ps : List (List ℕ)) (l : List A) → every_of read ps ≡ Some l → Each Good l
  unfolding every_of Each cons_read
  every_good [] l e = let n : l ≡ [] = cc in rw n tt
  every_good (p ∷ ps) l e = go (read (trim p)) (every_of read ps) refl (every_good ps) l e
    where
      go : (o : Option A) (r : Option (List A)) → read (trim p) ≡ o → ((m : List A) → r ≡ Some m → Each Good m) → (l : List A) → cons_read o r ≡ Some l
          → Each Good l
      go None r f g l e = let z : ◌≡◌ {A = ℕ} 0 1 = cc in absurd (omega arith)
      go (Some a) None f g l e = let z : ◌≡◌ {A = ℕ} 0 1 = cc in absurd (omega arith)
      go (Some a) (Some m) f g l e = let n : l ≡ a ∷ m = cc in rw n (good (trim p) a f, g m refl)

  -- as many as may be, and each of them good
  pub record Known (least most : ℕ) (l : List A) : Type 0 where
    pub enough : least ≤ length l
    pub few : length l ≤ most
    pub each_good : Each Good l

  pub list_known : (sep least most : ℕ) (s : List ℕ) (l : List A) → some_of read sep least most s ≡ Some l → Known least most l
  list_known sep least most s l e =
      let c = list_counted read sep least most s l e in
      record { enough = c.enough; few = c.few; each_good = every_good (cut_at sep s) l c.all_parts }
