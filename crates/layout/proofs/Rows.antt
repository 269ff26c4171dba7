-- The rows: most are in the body's order, every field of a row is a field of its layout, and a row is its fields and then its half-bands. Assumes nothing.
use Prim.Native.Nat.{ℕ, zero, suc, ◌+◌, ◌≤◌, ◌<◌}
use Rattle.layout.proofs.Labels.{all_in}
use Rattle.layout.specs.Fields.{command, technical, market, mfrr, rc, mg, eb, lb, sr, vq, ri, qr}
use Rattle.layout.specs.Layouts.{fields_of, size_of}
use Rattle.layout.specs.Rows.{row_fields, text_at, bands_in, pieces_of, tail_text, row_text, row_of}
use Rattle.layout.specs.declared.Layout.{Layout}
use Rattle.layout.specs.declared.Layout.TheVariants.{Market, Mfrr, Revocation, Generic, Exclusion, Limitation, Secondary, VoltVar, Rejection, Reserve}
use Rattle.text.proofs.Tests.{and_parts, within_tells}
use Rattle.text.specs.Bytes.{all, within}
use borrow.Author.Tests.{leb-true, eqb-true}
use lib.Dec.{eqb}
use lib.ListN.{length, get_or, length-map}
use mathlib.Core.Bool.{Bool, true, ◌&&◌}
use mathlib.Core.List.{List, [], ◌∷◌, ◌++◌, map, append_assoc}
use mathlib.Core.Path.{◌≡◌, refl, sym, ap, ◌∙◌}
use native.Mathlib.Omega.{arith}

-- ---- how many fields stand in a row

pub row_few : (l : Layout) → length (row_fields l) ≤ 26
unfolding row_fields
row_few Market = leb-true _ _ refl
row_few Mfrr = leb-true _ _ refl
row_few Revocation = leb-true _ _ refl
row_few Generic = leb-true _ _ refl
row_few Exclusion = leb-true _ _ refl
row_few Limitation = leb-true _ _ refl
row_few Secondary = leb-true _ _ refl
row_few VoltVar = leb-true _ _ refl
row_few Rejection = leb-true _ _ refl
row_few Reserve = leb-true _ _ refl

pub row_some : (l : Layout) → 1 ≤ length (row_fields l)
unfolding row_fields
row_some Market = leb-true _ _ refl
row_some Mfrr = leb-true _ _ refl
row_some Revocation = leb-true _ _ refl
row_some Generic = leb-true _ _ refl
row_some Exclusion = leb-true _ _ refl
row_some Limitation = leb-true _ _ refl
row_some Secondary = leb-true _ _ refl
row_some VoltVar = leb-true _ _ refl
row_some Rejection = leb-true _ _ refl
row_some Reserve = leb-true _ _ refl

-- every row begins with field 1
pub first_field : (l : Layout) → get_or (row_fields l) 0 0 ≡ 1
unfolding row_fields
first_field Market = refl
first_field Mfrr = refl
first_field Revocation = refl
first_field Generic = refl
first_field Exclusion = refl
first_field Limitation = refl
first_field Secondary = refl
first_field VoltVar = refl
first_field Rejection = refl
first_field Reserve = refl

-- only SR has half-bands
pub no_bands : (l : Layout) (col : List (List ℕ)) → (l ≡ Secondary → ⊥) → bands_in l col ≡ []
no_bands Market col n = refl
no_bands Mfrr col n = refl
no_bands Revocation col n = refl
no_bands Generic col n = refl
no_bands Exclusion col n = refl
no_bands Limitation col n = refl
no_bands Secondary col n = absurd (n refl)
no_bands VoltVar col n = refl
no_bands Rejection col n = refl
no_bands Reserve col n = refl

-- ---- they are fields of the layout

all_fields : (l : Layout) → all (within 1 (size_of l)) (row_fields l) ≡ true
unfolding all row_fields fields_of market command technical mfrr rc mg eb lb sr vq ri qr
all_fields Market = refl
all_fields Mfrr = refl
all_fields Revocation = refl
all_fields Generic = refl
all_fields Exclusion = refl
all_fields Limitation = refl
all_fields Secondary = refl
all_fields VoltVar = refl
all_fields Rejection = refl
all_fields Reserve = refl

pub row_fields_lem : (l : Layout) (i : ℕ) → i < length (row_fields l) → (1 ≤ get_or (row_fields l) i 0) × (get_or (row_fields l) i 0 ≤ size_of l)
row_fields_lem l i h = (within_tells 1 (size_of l) (get_or (row_fields l) i 0)).0 (all_in (within 1 (size_of l)) (row_fields l) i 0 (all_fields l) h)

-- ---- rows in the body's order: the numbers from 1

-- l is n, n + 1, ..
runs : ℕ → List ℕ → Bool
runs n [] = true
runs n (x ∷ l) = eqb n x && runs (suc n) l

runs_at : (n : ℕ) (l m : List ℕ) (i : ℕ) → runs n l ≡ true → i < length l → n + i ≡ get_or (l ++ m) i 0
unfolding runs
runs_at n [] m i e h = absurd (omega arith)
runs_at n (x ∷ l) m zero e h = omega (arith, eqb-true n x (and_parts (eqb n x) (runs (suc n) l) e).0)
runs_at n (x ∷ l) m (suc i) e h =
    let s : n + suc i ≡ suc n + i = omega arith in
    s ∙ runs_at (suc n) l m i (and_parts (eqb n x) (runs (suc n) l) e).1 (omega arith)

-- a row that runs, up to its last fields m
front : (l m : List ℕ) (i : ℕ) → runs 1 l ≡ true → i < length l → i + 1 ≡ get_or (l ++ m) i 0
front l m i e h = let s : i + 1 ≡ 1 + i = omega arith in s ∙ runs_at 1 l m i e h

-- every row but those of EB and LB
pub in_order : (l : Layout) (i : ℕ) → i < length (row_fields l) → (l ≡ Exclusion → ⊥) → (l ≡ Limitation → ⊥) → i + 1 ≡ get_or (row_fields l) i 0
unfolding runs row_fields
in_order Market i h _ _ = front (row_fields Market) [] i refl h
in_order Mfrr i h _ _ = front (row_fields Mfrr) [] i refl h
in_order Revocation i h _ _ = front (row_fields Revocation) [] i refl h
in_order Generic i h _ _ = front (row_fields Generic) [] i refl h
in_order Exclusion i h other _ = absurd (other refl)
in_order Limitation i h _ other = absurd (other refl)
in_order Secondary i h _ _ = front (row_fields Secondary) [] i refl h
in_order VoltVar i h _ _ = front (row_fields VoltVar) [] i refl h
in_order Rejection i h _ _ = front (row_fields Rejection) [] i refl h
in_order Reserve i h _ _ = front (row_fields Reserve) [] i refl h

-- the first four fields of EB and LB
pub eb_order : (i : ℕ) → i < length (row_fields Exclusion) → (i ≡ 4 → ⊥) → i + 1 ≡ get_or (row_fields Exclusion) i 0
unfolding runs row_fields
eb_order i h n = front (1 ∷ 2 ∷ 3 ∷ 4 ∷ []) (7 ∷ []) i refl (omega arith)

pub lb_order : (i : ℕ) → i < length (row_fields Limitation) → (i ≡ 4 → ⊥) → (i ≡ 5 → ⊥) → (i ≡ 6 → ⊥) → i + 1 ≡ get_or (row_fields Limitation) i 0
unfolding runs row_fields
lb_order i h n m o = front (1 ∷ 2 ∷ 3 ∷ 4 ∷ []) (6 ∷ 5 ∷ 9 ∷ []) i refl (omega arith)

-- ---- the row of a layout: the fields, and then the half-bands

tail_join : (xs ys : List (List ℕ)) → tail_text (xs ++ ys) ≡ tail_text xs ++ tail_text ys
unfolding tail_text
tail_join [] ys = refl
tail_join (x ∷ xs) ys = ap (λ (t : List ℕ). (59 ∷ x) ++ t) (tail_join xs ys) ∙ sym (append_assoc (59 ∷ x) (tail_text xs) (tail_text ys))

row_join : (xs ys : List (List ℕ)) → 1 ≤ length xs → row_text (xs ++ ys) ≡ row_text xs ++ tail_text ys
unfolding row_text
row_join [] ys h = absurd (omega arith)
row_join (x ∷ xs) ys h = ap (λ (t : List ℕ). x ++ t) (tail_join xs ys) ∙ sym (append_assoc x (tail_text xs) (tail_text ys))

pub row_cut : (l : Layout) (col : List (List ℕ)) → row_of l col ≡ row_text (map (text_at col) (row_fields l)) ++ tail_text (bands_in l col)
unfolding row_of pieces_of
row_cut l col = row_join (map (text_at col) (row_fields l)) (bands_in l col) (omega (arith, row_some l, length-map (row_fields l) (text_at col)))
