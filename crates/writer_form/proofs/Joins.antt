-- A text of pieces, one after another: lines, or values after their `;`. The first of them, and one more, are the first of them and that one, as a
-- loop puts them. Assumes nothing.
use Prim.Native.Nat.{ℕ, zero, suc, ◌+◌, ◌*◌, ◌≤◌, ◌<◌}
use Rattle.layout.specs.Rows.{tail_text, row_text}
use Rattle.writer_form.specs.Written.{lines_text}
use lib.ListN.{length, get_or, take, drop, length-append, take-append-drop}
use lib.Seq.{take-suc}
use mathlib.Core.List.{List, [], ◌∷◌, ◌++◌, append-nil, append_assoc}
use mathlib.Core.Path.{◌≡◌, refl, sym, ap, ◌∙◌}
use native.Mathlib.Omega.{arith}

module _ (text : List (List ℕ) → List ℕ) (none : text [] ≡ []) (more : (x : List ℕ) (xs : List (List ℕ)) → text (x ∷ xs) ≡ text (x ∷ []) ++ text xs) where
  join : (xs ys : List (List ℕ)) → text (xs ++ ys) ≡ text xs ++ text ys
  join [] ys = rw none
  join (x ∷ xs) ys =
      more x (xs ++ ys)
      ∙ ap (λ (t : List ℕ). text (x ∷ []) ++ t) (join xs ys)
      ∙ sym (append_assoc (text (x ∷ [])) (text xs) (text ys))
      ∙ ap (λ (t : List ℕ). t ++ text ys) (sym (more x xs))

  one_more : (xs : List (List ℕ)) (i : ℕ) → i < length xs → text (take (suc i) xs) ≡ text (take i xs) ++ text (get_or xs i [] ∷ [])
  one_more xs i h = ap text (take-suc xs i [] h) ∙ join (take i xs) (get_or xs i [] ∷ [])

  -- none of them has more than 700 bytes
  short : (xs : List (List ℕ)) → ((i : ℕ) → i < length xs → length (text (get_or xs i [] ∷ [])) ≤ 700) → length (text xs) ≤ 700 * length xs
  short [] h = rw none (omega arith)
  short (x ∷ xs) h =
      omega (arith, ap length (more x xs), length-append (text (x ∷ [])) (text xs), h 0 (omega arith), short xs (λ i k. h (suc i) (omega arith)))

  front_short : (xs : List (List ℕ)) (i : ℕ) → length (text (take i xs)) ≤ length (text xs)
  front_short xs i =
      omega (arith, ap length (ap text (sym (take-append-drop i xs)) ∙ join (take i xs) (drop i xs)), length-append (text (take i xs)) (text (drop i xs)))

-- ---- lines

line_more : (x : List ℕ) (xs : List (List ℕ)) → lines_text (x ∷ xs) ≡ lines_text (x ∷ []) ++ lines_text xs
unfolding lines_text
line_more x xs = sym (append_assoc x (10 ∷ []) (lines_text xs))

no_lines : lines_text [] ≡ []
unfolding lines_text
no_lines = refl

module _ (xs : List (List ℕ)) where
  pub one_line_more : (i : ℕ) → i < length xs → lines_text (take (suc i) xs) ≡ lines_text (take i xs) ++ lines_text (get_or xs i [] ∷ [])
  one_line_more i h = one_more lines_text no_lines line_more xs i h

  pub lines_short : ((i : ℕ) → i < length xs → length (lines_text (get_or xs i [] ∷ [])) ≤ 700) → length (lines_text xs) ≤ 700 * length xs
  lines_short h = short lines_text no_lines line_more xs h

  pub first_lines : (i : ℕ) → length (lines_text (take i xs)) ≤ length (lines_text xs)
  first_lines i = front_short lines_text no_lines line_more xs i

-- ---- values after their `;`

tail_more : (x : List ℕ) (xs : List (List ℕ)) → tail_text (x ∷ xs) ≡ tail_text (x ∷ []) ++ tail_text xs
unfolding tail_text
tail_more x xs = ap (λ (t : List ℕ). t ++ tail_text xs) (sym (append-nil (59 ∷ x)))

no_tail : tail_text [] ≡ []
unfolding tail_text
no_tail = refl

-- ---- the row: its first value has no `;` before it

pub row_first : (xs : List (List ℕ)) → 1 ≤ length xs → row_text xs ≡ get_or xs 0 [] ++ tail_text (drop 1 xs)
unfolding row_text
row_first [] h = absurd (omega arith)
row_first (x ∷ xs) h = refl

pub no_value_more : (xs : List (List ℕ)) → tail_text (drop 1 (take 1 xs)) ≡ []
no_value_more [] = no_tail
no_value_more (x ∷ xs) = no_tail

pub one_value_more : (xs : List (List ℕ)) (i : ℕ) → 1 ≤ i → i < length xs
    → tail_text (drop 1 (take (suc i) xs)) ≡ tail_text (drop 1 (take i xs)) ++ tail_text (get_or xs i [] ∷ [])
one_value_more xs zero h k = absurd (omega arith)
one_value_more [] (suc i) h k = absurd (omega arith)
one_value_more (x ∷ xs) (suc i) h k = one_more tail_text no_tail tail_more xs i (omega arith)

-- a value and its `;`
tail_one : (x : List ℕ) → length (tail_text (x ∷ [])) ≡ length x + 1
unfolding tail_text
tail_one x = omega (arith, length-append (59 ∷ x) [])

pub row_short : (xs : List (List ℕ)) → ((i : ℕ) → i < length xs → length (get_or xs i []) ≤ 699) → length (row_text xs) ≤ 700 * length xs
unfolding row_text
row_short [] h = omega arith
row_short (x ∷ xs) h =
    omega (
      arith,
      length-append x (tail_text xs),
      h 0 (omega arith),
      short tail_text no_tail tail_more xs (λ i k. omega (arith, tail_one (get_or xs i []), h (suc i) (omega arith))),
    )

pub first_values : (xs : List (List ℕ)) (i : ℕ) → 1 ≤ i → 1 ≤ length xs → length (get_or xs 0 []) + length (tail_text (drop 1 (take i xs))) ≤ length (row_text xs)
unfolding row_text
first_values xs zero h k = absurd (omega arith)
first_values [] (suc i) h k = absurd (omega arith)
first_values (x ∷ xs) (suc i) h k = omega (arith, length-append x (tail_text xs), front_short tail_text no_tail tail_more xs i)
