-- The column of a layout's texts, by field: the text of the field k is what stands at its place. Assumes nothing.
use Prim.Native.Nat.{ℕ, zero, suc, ◌≤◌, ◌<◌}
use Rattle.text_lines.specs.Places.{part_of, span_at, column_in}
use Rattle.text_lines.specs.declared.Span.{Span}
use lib.ListN.{length, get_or, take}
use mathlib.Core.List.{List, [], ◌∷◌, map}
use mathlib.Core.Path.{◌≡◌, refl, ap}
use native.Mathlib.Omega.{arith}

-- ---- what is made of the first n

module _ {A B : Type 0} (f : A → B) where
  front_at : (n k : ℕ) (l : List A) (d : A) (e : B) → k < n → n ≤ length l → get_or (map f (take n l)) k e ≡ f (get_or l k d)
  front_at zero k l d e h g = absurd (omega arith)
  front_at (suc n) k [] d e h g = absurd (omega arith)
  front_at (suc n) zero (x ∷ l) d e h g = refl
  front_at (suc n) (suc k) (x ∷ l) d e h g = front_at n k l d e (omega arith) (omega arith)

  front_length : (n : ℕ) (l : List A) → n ≤ length l → length (map f (take n l)) ≡ n
  front_length zero l g = refl
  front_length (suc n) [] g = absurd (omega arith)
  front_length (suc n) (x ∷ l) g = ap suc (front_length n l (omega arith))

-- ---- the column: the fields are numbered from 1

pub column_at_lem : (n k : ℕ) (file : List ℕ) (spans : List Span) → 1 ≤ k → k ≤ n → n < length spans
    → get_or ([] ∷ column_in n file spans) k [] ≡ part_of file (span_at spans k)
unfolding column_in
column_at_lem n k file [] a b g = absurd (omega arith)
column_at_lem n zero file (p ∷ spans) a b g = absurd (omega arith)
column_at_lem n (suc k) file (p ∷ spans) a b g = front_at (part_of file) n k spans _ [] (omega arith) (omega arith)

pub column_length : (n : ℕ) (file : List ℕ) (spans : List Span) → n < length spans → length (column_in n file spans) ≡ n
unfolding column_in
column_length n file [] g = absurd (omega arith)
column_length n file (p ∷ spans) g = front_length (part_of file) n spans (omega arith)
