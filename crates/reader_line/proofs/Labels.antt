-- The labels of the layouts: each is found at its own place and at no other.
-- Assumes nothing.
use Prim.Native.Nat.{ℕ, zero, suc, ◌+◌, ◌≤◌, ◌<◌}
use Rattle.layout.proofs.Labels.{few, labels_length, label_at_lem, all_in, GoodLabel, good_label}
use Rattle.layout.specs.Fields.{command, technical, market, mfrr, rc, mg, eb, lb, sr, vq, ri, qr}
use Rattle.layout.specs.Layouts.{fields_of, labels_of, size_of, label_at}
use Rattle.layout.specs.declared.Layout.{Layout}
use Rattle.layout.specs.declared.Layout.TheVariants.{Market, Mfrr, Revocation, Generic, Exclusion, Limitation, Secondary, VoltVar, Rejection, Reserve}
use Rattle.text_lines.proofs.Standing.{later, place_at, place_here, place_on, place_end}
use Rattle.text_lines.specs.Entries.{place_of}
use Rattle.text.proofs.Cuts.{same_true}
use Rattle.text.proofs.Tables.{off, all_at}
use Rattle.text.proofs.Tests.{by_test, by_le, and_parts}
use Rattle.text.specs.Bytes.{same, all, is_upper}
use borrow.Author.Tests.{eqb-true}
use lib.Dec.{eqb}
use lib.ListN.{length, get_or, drop}
use mathlib.Core.Bool.{Bool, true, false, ◌&&◌, false≢true}
use mathlib.Core.List.{List, [], ◌∷◌}
use mathlib.Core.Path.{◌≡◌, refl, sym, ap, ◌∙◌}
use native.Mathlib.Omega.{arith}

-- ---- a label that a layout has

pub labels_few : (l : Layout) → length (labels_of l) ≤ 26
labels_few l = omega (arith, few l, labels_length l)

none_past : (l : Layout) (k : ℕ) → size_of l < k → length (label_at l k) ≡ 0
unfolding label_at
none_past l k h = ap length (sym (off ([] ∷ labels_of l) k [] (omega (arith, labels_length l))))

none_first : (l : Layout) → length (label_at l 0) ≡ 0
unfolding label_at
none_first l = refl

-- a field of the layout, by its label
pub in_layout : (l : Layout) (k : ℕ) → 1 ≤ length (label_at l k) → (1 ≤ k) × (k ≤ size_of l)
in_layout l zero h = absurd (omega (arith, none_first l))
in_layout l (suc k) h =
    (omega arith, by_le (suc k) (size_of l) (λ j. j) (λ j. absurd (omega (arith, none_past l (suc k) j))))

pub good_at : (l : Layout) (k : ℕ) → 1 ≤ length (label_at l k) → GoodLabel (label_at l k)
good_at l k h = let b = in_layout l k h in good_label l k b.0 b.1

-- ---- one turn of the search among the labels, and its end

module _ (l : Layout) (s : List ℕ) (k : ℕ) (h : k < size_of l) where
  next_label : same (get_or (labels_of l) k []) s ≡ same (label_at l (k + 1)) s
  next_label =
      let n : suc k ≡ k + 1 = omega arith in
      ap (λ (t : List ℕ). same t s) (sym (label_at_lem l k) ∙ ap (label_at l) n)

  inside : k < length (labels_of l)
  inside = omega (arith, h, labels_length l)

  pub label_here : same (label_at l (k + 1)) s ≡ true → k + 1 ≡ later k (place_of (drop k (labels_of l)) s)
  label_here e = place_here (labels_of l) s k inside (next_label ∙ e)

  pub label_on : same (label_at l (k + 1)) s ≡ false → later k (place_of (drop k (labels_of l)) s) ≡ later (k + 1) (place_of (drop (k + 1) (labels_of l)) s)
  label_on e = place_on (labels_of l) s k inside (next_label ∙ e)

pub label_none : (l : Layout) (s : List ℕ) (k : ℕ) → size_of l ≤ k → 0 ≡ later k (place_of (drop k (labels_of l)) s)
label_none l s k h = place_end (labels_of l) s k (omega (arith, h, labels_length l))

-- ---- the place of a label in its own layout

-- the labels ts are in ls at i, i + 1, ..
placed : ℕ → List (List ℕ) → List (List ℕ) → Bool
placed i ls [] = true
placed i ls (t ∷ ts) = eqb (place_of ls t) i && placed (suc i) ls ts

placed_at : (i : ℕ) (ls ts : List (List ℕ)) (k : ℕ) → placed i ls ts ≡ true → k < length ts → place_of ls (get_or ts k []) ≡ i + k
unfolding placed
placed_at i ls [] k e h = absurd (omega (arith, h))
placed_at i ls (t ∷ ts) zero e h =
    omega (arith, eqb-true (place_of ls t) i (and_parts (eqb (place_of ls t) i) (placed (suc i) ls ts) e).0)
placed_at i ls (t ∷ ts) (suc k) e h =
    let n : suc i + k ≡ i + suc k = omega arith in
    placed_at (suc i) ls ts k (and_parts (eqb (place_of ls t) i) (placed (suc i) ls ts) e).1 (omega (arith, h)) ∙ n

all_placed : (l : Layout) → placed 1 (labels_of l) (labels_of l) ≡ true
unfolding placed place_of same labels_of fields_of market command technical mfrr rc mg eb lb sr vq ri qr
all_placed Market = refl
all_placed Mfrr = refl
all_placed Revocation = refl
all_placed Generic = refl
all_placed Exclusion = refl
all_placed Limitation = refl
all_placed Secondary = refl
all_placed VoltVar = refl
all_placed Rejection = refl
all_placed Reserve = refl

pub own_place : (l : Layout) (k : ℕ) → 1 ≤ length (label_at l k) → k ≡ place_of (labels_of l) (label_at l k)
unfolding label_at
own_place l zero h = absurd (omega (arith, none_first l))
own_place l (suc k) h =
    let n : 1 + k ≡ suc k = omega arith in
    let b : k < length (labels_of l) = omega (arith, (in_layout l (suc k) h).1, labels_length l) in
    sym (placed_at 1 (labels_of l) (labels_of l) k (all_placed l) b ∙ n)

-- ---- market and mFRR: their first two labels are the same, the others are foreign to each other

foreign : List (List ℕ) → List ℕ → Bool
foreign ls t = eqb (place_of ls t) 0

from_third : (ts : List (List ℕ)) (k : ℕ) → get_or ts (suc (suc k)) [] ≡ get_or (drop 2 ts) k []
from_third [] k = refl
from_third (x ∷ []) k = refl
from_third (x ∷ y ∷ ts) k = refl

-- a test of the whole table from the third label on
foreign_at : (ls : List (List ℕ)) (l : Layout) (k : ℕ) → all (foreign ls) (drop 2 (labels_of l)) ≡ true → foreign ls [] ≡ true → 2 < k
    → 0 ≡ place_of ls (label_at l k)
unfolding foreign label_at
foreign_at ls l zero e z h = absurd (omega (arith, h))
foreign_at ls l (suc zero) e z h = absurd (omega (arith, h))
foreign_at ls l (suc (suc zero)) e z h = absurd (omega (arith, h))
foreign_at ls l (suc (suc (suc k))) e z h =
    sym (ap (place_of ls) (from_third (labels_of l) k) ∙ eqb-true (place_of ls (get_or (drop 2 (labels_of l)) k [])) 0 (all_at (foreign ls) (drop 2 (labels_of l)) k [] e z))

pub market_foreign : (k : ℕ) → 2 < k → 0 ≡ place_of (labels_of Mfrr) (label_at Market k)
unfolding foreign all place_of same labels_of fields_of market command technical mfrr
market_foreign k h = foreign_at (labels_of Mfrr) Market k refl refl h

pub mfrr_foreign : (k : ℕ) → 2 < k → 0 ≡ place_of (labels_of Market) (label_at Mfrr k)
unfolding foreign all place_of same labels_of fields_of market command technical mfrr
mfrr_foreign k h = foreign_at (labels_of Market) Mfrr k refl refl h

pub market_shared : (k : ℕ) → 1 ≤ length (label_at Market k) → k ≤ 2 → k ≡ place_of (labels_of Mfrr) (label_at Market k)
unfolding place_of same label_at labels_of fields_of market command technical mfrr
market_shared zero h j = absurd (omega (arith, none_first Market))
market_shared (suc zero) h j = refl
market_shared (suc (suc zero)) h j = refl
market_shared (suc (suc (suc k))) h j = absurd (omega (arith, j))

-- ---- by its first byte

capital : List ℕ → Bool
capital t = is_upper (get_or t 0 0)

all_capital : (l : Layout) → all capital (labels_of l) ≡ true
unfolding capital all labels_of fields_of market command technical mfrr rc mg eb lb sr vq ri qr
all_capital Market = refl
all_capital Mfrr = refl
all_capital Revocation = refl
all_capital Generic = refl
all_capital Exclusion = refl
all_capital Limitation = refl
all_capital Secondary = refl
all_capital VoltVar = refl
all_capital Rejection = refl
all_capital Reserve = refl

pub capital_first : (l : Layout) (k : ℕ) → 1 ≤ length (label_at l k) → is_upper (get_or (label_at l k) 0 0) ≡ true
unfolding label_at capital
capital_first l zero h = absurd (omega (arith, none_first l))
capital_first l (suc k) h =
    all_in capital (labels_of l) k [] (all_capital l) (omega (arith, (in_layout l (suc k) h).1, labels_length l))

-- no label is a text that begins otherwise
small_foreign : (ls : List (List ℕ)) (b : ℕ) (x : List ℕ) → all capital ls ≡ true → is_upper b ≡ false → place_of ls (b ∷ x) ≡ 0
unfolding place_of all capital same
small_foreign [] b x e n = refl
small_foreign (t ∷ ls) b x e n =
    let p = and_parts (capital t) (all capital ls) e in
    rw (unlike t p.0, small_foreign ls b x p.1 n)
  where
    unlike : (t : List ℕ) → capital t ≡ true → same t (b ∷ x) ≡ false
    unlike [] c = refl
    unlike (a ∷ t) c =
        by_test (eqb a b) (λ q. absurd (false≢true (sym n ∙ ap is_upper (sym (eqb-true a b q)) ∙ c))) (λ q. rw q)

pub star_foreign : (l : Layout) (x : List ℕ) → place_of (labels_of l) (42 ∷ x) ≡ 0
star_foreign l x = small_foreign (labels_of l) 42 x (all_capital l) refl

-- ---- a label of mFRR past the two that it shares is none of the market layout's

pub mfrr_alone : (x : List ℕ) (k : ℕ) → k ≡ place_of (labels_of Mfrr) x → 2 < k → 0 ≡ place_of (labels_of Market) x
mfrr_alone x zero e h = absurd (omega arith)
mfrr_alone x (suc k) e h =
    let y : label_at Mfrr (suc k) ≡ x = label_at_lem Mfrr k ∙ same_true (get_or (labels_of Mfrr) k []) x (place_at (labels_of Mfrr) x k (sym e)) in
    mfrr_foreign (suc k) h ∙ ap (place_of (labels_of Market)) y
