-- What is told of the labels and kinds of every layout by tests that antt computes over the tables. Assumes nothing.
use Prim.Native.Nat.{ℕ, zero, suc, ◌≤◌, ◌<◌}
use Rattle.layout.specs.Fields.{Field, command, technical, market, mfrr, rc, mg, eb, lb, sr, vq, ri, qr}
use Rattle.layout.specs.Layouts.{fields_of, labels_of, kinds_of, size_of, label_at, kind_at, no_kind}
use Rattle.layout.specs.declared.Layout.{Layout}
use Rattle.layout.specs.declared.Layout.TheVariants.{Market, Mfrr, Revocation, Generic, Exclusion, Limitation, Secondary, VoltVar, Rejection, Reserve}
use Rattle.text.proofs.Tests.{leb_tells, itself, ◌and◌, and_parts}
use Rattle.text.specs.Bytes.{is, any, all, same, skip, skip_end, trim, tidy}
use borrow.Author.Tests.{leb-true, not-true}
use lib.Dec.{leb}
use lib.ListN.{length, get_or}
use mathlib.Core.Bool.{Bool, true, false, not, ◌&&◌}
use mathlib.Core.List.{List, [], ◌∷◌, map}
use mathlib.Core.Path.{◌≡◌, refl, ap}
use native.Mathlib.Omega.{arith}

-- ---- how many fields

pub few : (l : Layout) → size_of l ≤ 26
unfolding fields_of market command technical mfrr rc mg eb lb sr vq ri qr
few Market = leb-true _ _ refl
few Mfrr = leb-true _ _ refl
few Revocation = leb-true _ _ refl
few Generic = leb-true _ _ refl
few Exclusion = leb-true _ _ refl
few Limitation = leb-true _ _ refl
few Secondary = leb-true _ _ refl
few VoltVar = leb-true _ _ refl
few Rejection = leb-true _ _ refl
few Reserve = leb-true _ _ refl

pub some_fields : (l : Layout) → 5 ≤ size_of l
unfolding fields_of market command technical mfrr rc mg eb lb sr vq ri qr
some_fields Market = leb-true _ _ refl
some_fields Mfrr = leb-true _ _ refl
some_fields Revocation = leb-true _ _ refl
some_fields Generic = leb-true _ _ refl
some_fields Exclusion = leb-true _ _ refl
some_fields Limitation = leb-true _ _ refl
some_fields Secondary = leb-true _ _ refl
some_fields VoltVar = leb-true _ _ refl
some_fields Rejection = leb-true _ _ refl
some_fields Reserve = leb-true _ _ refl

length_map : {A B : Type 0} (f : A → B) (l : List A) → length (map f l) ≡ length l
length_map f [] = refl
length_map f (x ∷ l) = ap suc (length_map f l)

pub labels_length : (l : Layout) → length (labels_of l) ≡ size_of l
unfolding labels_of
labels_length l = length_map (λ (f : Field). f.label) (fields_of l)

pub kinds_length : (l : Layout) → length (kinds_of l) ≡ size_of l
unfolding kinds_of
kinds_length l = length_map (λ (f : Field). f.kind) (fields_of l)

-- ---- a field's number is from 1, its place from 0

pub label_at_lem : (l : Layout) (k : ℕ) → label_at l (suc k) ≡ get_or (labels_of l) k []
unfolding label_at
label_at_lem l k = refl

pub kind_at_lem : (l : Layout) (k : ℕ) → kind_at l (suc k) ≡ get_or (kinds_of l) k no_kind
unfolding kind_at
kind_at_lem l k = refl

-- ---- a test of the whole table, at one entry that it has

pub all_in : {A : Type 0} (p : A → Bool) (l : List A) (k : ℕ) (d : A) → all p l ≡ true → k < length l → p (get_or l k d) ≡ true
unfolding all
all_in p [] k d e h = absurd (omega arith)
all_in p (x ∷ l) zero d e h = (and_parts (p x) (all p l) e).0
all_in p (x ∷ l) (suc k) d e h = all_in p l k d (and_parts (p x) (all p l) e).1 (omega arith)

-- ---- labels can stand before the `=` (61) of a line

pub record GoodLabel (t : List ℕ) : Type 0 where
  pub some : 1 ≤ length t
  pub short : length t ≤ 35
  pub is_tidy : tidy t ≡ true
  pub no_equals : any (is 61) t ≡ false

good : List ℕ → Bool
good t = leb 1 (length t) && leb (length t) 35 && tidy t && not (any (is 61) t)

good_tells : (t : List ℕ) → good t ≡ true → GoodLabel t
unfolding good
good_tells t e =
    let p = (leb_tells 1 (length t) and leb_tells (length t) 35 and itself (tidy t) and itself (not (any (is 61) t))).0 e in
    record { some = p.0.0.0; short = p.0.0.1; is_tidy = p.0.1; no_equals = not-true (any (is 61) t) p.1 }

all_good : (l : Layout) → all good (labels_of l) ≡ true
unfolding all any good tidy same trim skip skip_end labels_of fields_of market command technical mfrr rc mg eb lb sr vq ri qr
all_good Market = refl
all_good Mfrr = refl
all_good Revocation = refl
all_good Generic = refl
all_good Exclusion = refl
all_good Limitation = refl
all_good Secondary = refl
all_good VoltVar = refl
all_good Rejection = refl
all_good Reserve = refl

pub good_label : (l : Layout) (k : ℕ) → 1 ≤ k → k ≤ size_of l → GoodLabel (label_at l k)
unfolding label_at
good_label l zero h j = absurd (omega arith)
good_label l (suc k) h j = good_tells (label_at l (suc k)) (all_in good (labels_of l) k [] (all_good l) (omega (arith, labels_length l)))
