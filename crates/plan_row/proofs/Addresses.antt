-- An address in one number: it tells the address, it is found among others, and an address that no row can have has none.
-- Assumes nothing.
use Prim.Native.Nat.{ℕ, ◌+◌, ◌-◌, ◌/◌, ◌%◌, max, ◌≤◌, ◌<◌}
use Rattle.plan_row.specs.Kept.{key_of, sought_key, rows_of}
use Rattle.plan_row.specs.Rows.{Row, row, is_at}
use Rattle.value_name.specs.declared.MessageType.TheVariants.{Cb}
use Rattle.text.proofs.Fronts.{any_step}
use Rattle.text.proofs.Tests.{by_le, same_if, eqb_tells, ◌and◌, or_parts}
use Rattle.text.specs.Bytes.{is, any}
use borrow.Author.Tests.{eq-eqb, ne_eqb, le-leb, lt-leb, le-ltb, ltb-false}
use lib.Dec.{eqb, ltb}
use lib.ListN.{length, get_or, take, drop, set, length-append}
use lib.Seq.{take-suc-set, drop-append-add}
use mathlib.Core.Bool.{Bool, true, false, ◌&&◌, ◌||◌}
use mathlib.Core.List.{List, [], ◌∷◌, ◌++◌}
use mathlib.Core.Path.{◌≡◌, refl, ap, ◌∙◌}
use native.Mathlib.Numerals.{add-one}
use native.Mathlib.Omega.{arith}

-- ---- one of the numbers, four at a time and one by one

abbrev one_of : ℕ → List ℕ → Bool
one_of key x = eqb (get_or x 0 0) key || eqb (get_or x 1 0) key || eqb (get_or x 2 0) key || eqb (get_or x 3 0) key

joined : (p q r s t : Bool) → (p || (q || (r || (s || t)))) ≡ (p || q || r || s || t)
joined true q r s t = refl
joined false true r s t = refl
joined false false true s t = refl
joined false false false true t = refl
joined false false false false t = refl

four_steps : (key : ℕ) (x l : List ℕ) → length x ≡ 4 → any (is key) (x ++ l) ≡ (one_of key x || any (is key) l)
unfolding any
four_steps key (a ∷ b ∷ c ∷ d ∷ []) l h = joined (eqb a key) (eqb b key) (eqb c key) (eqb d key) (any (is key) l)
four_steps key [] l h = absurd (omega arith)
four_steps key (a ∷ []) l h = absurd (omega arith)
four_steps key (a ∷ b ∷ []) l h = absurd (omega arith)
four_steps key (a ∷ b ∷ c ∷ []) l h = absurd (omega arith)
four_steps key (a ∷ b ∷ c ∷ d ∷ e ∷ x) l h = absurd (omega arith)

pub four_here : (key : ℕ) (x l m : List ℕ) → l ≡ x ++ m → length x ≡ 4 → one_of key x ≡ true → any (is key) l ≡ true
four_here key x l m e h y = rw (e, four_steps key x m h, y)

pub four_on : (key : ℕ) (x l m : List ℕ) → l ≡ x ++ m → length x ≡ 4 → one_of key x ≡ false → any (is key) l ≡ any (is key) m
four_on key x l m e h n = rw (e, four_steps key x m h, n)

-- what no four hold, of all and of those behind the first four
abbrev pub over : List ℕ → List ℕ
over l = drop (length l - length l % 4) l

pub over_on : (x l m : List ℕ) → l ≡ x ++ m → length x ≡ 4 → over l ≡ over m
over_on x l m e h =
    let n : length l - length l % 4 ≡ length x + (length m - length m % 4) = omega (arith, ap length e, length-append x m) in
    rw (n, e, drop-append-add) refl

pub over_end : (l : List ℕ) → length l < 4 → over l ≡ l
over_end l h = let n : length l - length l % 4 ≡ 0 = omega arith in rw n

pub one_here : (l : List ℕ) (key k : ℕ) → k < length l → get_or l k 0 ≡ key → any (is key) (drop k l) ≡ true
one_here l key k h e = any_step (is key) 0 l k h ∙ rw (eq-eqb _ _ e)

pub one_on : (l : List ℕ) (key k : ℕ) → k < length l → (get_or l k 0 ≡ key → ⊥) → any (is key) (drop k l) ≡ any (is key) (drop (k + 1) l)
one_on l key k h n = any_step (is key) 0 l k h ∙ rw (ne_eqb _ _ n)

-- none is above a number, so none is a number above it
pub none_above : (l : List ℕ) (greatest key : ℕ) → any (ltb greatest) l ≡ false → greatest < key → false ≡ any (is key) l
unfolding any
none_above [] greatest key n h = refl
none_above (x ∷ l) greatest key n h =
    let o = or_parts (ltb greatest x) (any (ltb greatest) l) n in
    let b = ltb-false greatest x o.0 in
    rw (ne_eqb x key (λ e. omega arith)) (none_above l greatest key o.1 h)

-- ---- the number tells the address

key_tells : (c i k : ℕ) → i ≤ 16777215 → (eqb (k / 16777216) c && eqb (k % 16777216) i) ≡ eqb k (key_of c i)
key_tells c i k h =
    same_if (eqb_tells (k / 16777216) c and eqb_tells (k % 16777216) i) (eqb_tells k (key_of c i)) (λ p. omega (arith, p))
    (λ e. (omega (arith, e), omega (arith, e)))

pub any_keys : (c i : ℕ) (l : List ℕ) → i ≤ 16777215 → any (is_at c i) (rows_of l) ≡ any (is (key_of c i)) l
unfolding any
any_keys c i [] h = refl
any_keys c i (k ∷ l) h = rw (key_tells c i k h, any_keys c i l h)

pub key_place : (c i : ℕ) → i ≤ 16777215 → (key_of c i / 16777216 ≡ c) × (key_of c i % 16777216 ≡ i)
key_place c i h = (omega arith, omega arith)

-- ---- the numbers that are kept

-- the row that a number stands for
abbrev pub row_of_key : ℕ → Row
row_of_key k = row (k / 16777216) (k % 16777216) [] Cb

swap : (a b t : Bool) → (a || (b || t)) ≡ (b || (a || t))
swap true true t = refl
swap true false t = refl
swap false b t = refl

any_last : (p : Row → Bool) (l : List ℕ) (k : ℕ) → any p (rows_of (l ++ k ∷ [])) ≡ (p (row_of_key k) || any p (rows_of l))
unfolding any
any_last p [] k = refl
any_last p (x ∷ l) k = rw (any_last p l k) (swap (p (row_of_key x)) (p (row_of_key k)) (any p (rows_of l)))

-- one more
pub any_kept : (c i n : ℕ) (keys : List ℕ) (k : ℕ) → n < length keys
    → any (is_at c i) (rows_of (take (n + 1) (set keys n k))) ≡ (is_at c i (row_of_key k) || any (is_at c i) (rows_of (take n keys)))
any_kept c i n keys k h = rw (add-one n, take-suc-set keys n k h) (any_last (is_at c i) (take n keys) k)

none_last : (l : List ℕ) (g k m : ℕ) → any (ltb g) l ≡ false → g ≤ m → k ≤ m → any (ltb m) (l ++ k ∷ []) ≡ false
unfolding any
none_last [] g k m n h e = rw (le-ltb m k e)
none_last (x ∷ l) g k m n h e =
    let o = or_parts (ltb g x) (any (ltb g) l) n in
    let b = ltb-false g x o.0 in
    rw (le-ltb m x (omega arith)) (none_last l g k m o.1 h e)

-- none is above the greater of the two
pub none_more : (keys : List ℕ) (n g k m : ℕ) → any (ltb g) (take n keys) ≡ false → m ≡ max g k → n < length keys
    → any (ltb m) (take (n + 1) (set keys n k)) ≡ false
none_more keys n g k m none e h =
    rw (add-one n, take-suc-set keys n k h) (none_last (take n keys) g k m none (omega arith) (omega arith))

-- ---- an address that is asked for

pub sought_near : (c i k : ℕ) → i ≤ 16777215 → k ≡ key_of c i → k ≡ sought_key c i
sought_near c i k h e = e ∙ rw (le-leb i 16777215 h)

pub sought_far : (c i : ℕ) → 16777215 < i → 0 ≡ sought_key c i
sought_far c i h = rw (lt-leb i 16777215 h)

-- a row's number is the one that is asked for where the row has the address
pub key_sought : (c i ca ioa : ℕ) → 1 ≤ c → i ≤ 16777215 → eqb (key_of c i) (sought_key ca ioa) ≡ (eqb c ca && eqb i ioa)
key_sought c i ca ioa one h =
    by_le ioa 16777215
    (λ k. rw (le-leb ioa 16777215 k)
    (same_if (eqb_tells (key_of c i) (key_of ca ioa)) (eqb_tells c ca and eqb_tells i ioa) (λ e. (omega (arith, e), omega (arith, e))) (λ p. omega (arith, p))))
    (λ k. rw (lt-leb ioa 16777215 k)
    (same_if (eqb_tells (key_of c i) 0) (eqb_tells c ca and eqb_tells i ioa) (λ e. absurd (omega (arith, e))) (λ p. absurd (omega (arith, p)))))
