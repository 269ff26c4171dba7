-- The loop over the fields that asks whether each stands as it is written: what is left to ask decides. Assumes nothing.
use Prim.Native.Nat.{ℕ, suc, ◌+◌, ◌≤◌, ◌<◌}
use Rattle.layout.specs.Layouts.{size_of}
use Rattle.layout.specs.declared.Layout.{Layout}
use Rattle.text_lines.proofs.Columns.{column_at_lem, column_length}
use Rattle.text_lines.specs.Places.{part_of, span_at, Placed, column_in}
use Rattle.text_lines.specs.declared.Span.{Span}
use Rattle.record.specs.Records.{cell}
use Rattle.record.specs.declared.Cell.{Cell}
use Rattle.value.specs.Texts.{is_written}
use Rattle.value.specs.declared.Value.{Value}
use Rattle.value.specs.declared.Value.TheVariants.{Blank}
use Rattle.writer.specs.Copied.{all_written}
use Rattle.writer_form.specs.Written.{values_in}
use lib.ListN.{length, get_or, take, drop, length-map, drop_of_length-le, get_or-map}
use lib.Seq.{drop-cons, length-take-le, get_or-take}
use mathlib.Core.Bool.{Bool, true, false, ◌&&◌}
use mathlib.Core.List.{List, [], map}
use mathlib.Core.Path.{◌≡◌, refl, sym, ap, ap₂, ◌∙◌}
use native.Mathlib.Numerals.{add-one}
use native.Mathlib.Omega.{arith}

-- one value more
one_more : (vs : List Value) (ss : List (List ℕ)) (k : ℕ) → k < length vs → k < length ss
    → all_written (drop k vs) (drop k ss) ≡ (is_written (get_or vs k Blank) (get_or ss k []) && all_written (drop (suc k) vs) (drop (suc k) ss))
unfolding all_written
one_more vs ss k h j = rw (drop-cons vs k Blank h, drop-cons ss k [] j)

none_left : (vs : List Value) (ss : List (List ℕ)) (k : ℕ) → length vs ≤ k → all_written (drop k vs) (drop k ss) ≡ true
unfolding all_written
none_left vs ss k h = rw (drop_of_length-le vs h)

-- the values of the first n fields
abbrev pub first_values : ℕ → List Cell → List Value
first_values n cells = map (λ (c : Cell). c.value) (take n cells)

-- the first k of n fields stand as they are written: those that are left decide
pub record Asked (n : ℕ) (cells : List Cell) (file : List ℕ) (places : List Span) (k : ℕ) : Type 0 where
  pub near : k ≤ n
  pub left : all_written (first_values n cells) (column_in n file places) ≡ all_written (drop k (first_values n cells)) (drop k (column_in n file places))

pub start : (n : ℕ) (cells : List Cell) (file : List ℕ) (places : List Span) → Asked n cells file places 0
start n cells file places = record { near = omega arith; left = refl }

module _ (n : ℕ) (small : n ≤ 26) (cells : List Cell) (room : length cells ≡ 26) (file : List ℕ) (places : List Span) (placed : Placed n file places)
    (k : ℕ) (a : Asked n cells file places k) where
  abbrev vs : List Value
  vs = first_values n cells

  abbrev col : List (List ℕ)
  col = column_in n file places

  values_count : length vs ≡ n
  values_count = length-map (take n cells) (λ (c : Cell). c.value) ∙ length-take-le n cells (omega (arith, small, room))

  texts_count : length col ≡ n
  texts_count = column_length n file places (omega (arith, small, placed.long))

  pub finish : n ≤ k → true ≡ all_written vs col
  finish h = sym (a.left ∙ none_left vs col k (omega (arith, values_count)))

  module _ (h : k < n) (b : Bool) (is : b ≡ is_written (get_or cells k (cell Blank)).value (part_of file (span_at places (k + 1)))) where
    value_there : get_or vs k Blank ≡ (get_or cells k (cell Blank)).value
    value_there =
        get_or-map (λ (c : Cell). c.value) (take n cells) k (cell Blank)
        ∙ ap (λ (c : Cell). c.value) (get_or-take n cells k (cell Blank) h)

    text_there : get_or col k [] ≡ part_of file (span_at places (k + 1))
    text_there = rw add-one (column_at_lem n (suc k) file places (omega arith) h (omega (arith, small, placed.long)))

    abbrev rest : Bool
    rest = all_written (drop (suc k) vs) (drop (suc k) col)

    step : all_written vs col ≡ (b && rest)
    step =
        let e : is_written (get_or vs k Blank) (get_or col k []) ≡ b = ap₂ is_written value_there text_there ∙ sym is in
        a.left ∙ one_more vs col k (omega (arith, values_count)) (omega (arith, texts_count)) ∙ ap (λ (x : Bool). x && rest) e

    pub stop : b ≡ false → false ≡ all_written vs col
    stop t = sym (step ∙ ap (λ (x : Bool). x && rest) t)

    pub turn : b ≡ true → Asked n cells file places (k + 1)
    turn t = rw add-one record { near = h; left = step ∙ ap (λ (x : Bool). x && rest) t }

-- all fields of a layout
pub of_layout : (l : Layout) (cells : List Cell) (file : List ℕ) (places : List Span) (b : Bool)
    → b ≡ all_written (first_values (size_of l) cells) (column_in (size_of l) file places) → b ≡ all_written (values_in l cells) (column_in (size_of l) file places)
unfolding values_in
of_layout l cells file places b q = q
