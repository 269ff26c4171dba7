-- The loop over the fields: its state, and its laws. Assumes nothing.
use Rattle.std.specs.Prelude.{None, Option, Some}
use Prim.Native.Nat.{ℕ, suc, ◌+◌, ◌-◌, ◌≤◌, ◌<◌}
use Rattle.reader_fill.specs.Filled.{ahead, good_front, filled_of}
use Rattle.layout.proofs.Labels.{few, kinds_length, kind_at_lem}
use Rattle.layout.specs.Layouts.{kinds_of, kind_at, no_kind, size_of}
use Rattle.layout.specs.declared.Layout.{Layout}
use Rattle.text_lines.proofs.Columns.{column_at_lem, column_length}
use Rattle.text_lines.specs.Places.{part_of, span_at, column_in, Placed}
use Rattle.text_lines.specs.declared.Span.{Span}
use Rattle.record.specs.Records.{Typed, joined, typed, cell, cells_of}
use Rattle.record.specs.Records.Typed.{bad, good}
use Rattle.record.specs.declared.Cell.{Cell}
use Rattle.value.specs.Kinds.{value_of}
use Rattle.value.specs.declared.Value.{Value}
use Rattle.value.specs.declared.Value.TheVariants.{Blank}
use lib.ListN.{length, drop, set, replicate, length-append, length-map, drop_of_length-le}
use lib.Seq.{drop-cons}
use mathlib.Core.List.{List, [], ◌∷◌, ◌++◌, map, append-nil, append_assoc, map-append}
use mathlib.Core.Path.{◌≡◌, refl, sym, ap, ◌∙◌}
use native.Mathlib.Numerals.{add-one}
use native.Mathlib.Omega.{arith}

-- ---- values already read, before those to come

unfoldable pub prefixed : List Value → Typed → Typed
prefixed done (bad k) = bad k
prefixed done (good vs) = good (done ++ vs)

prefixed_step : (k : ℕ) (done : List Value) (v : Value) (t : Typed) → prefixed done (joined k (Some v) t) ≡ prefixed (done ++ v ∷ []) t
unfolding prefixed joined
prefixed_step k done v (bad j) = refl
prefixed_step k done v (good vs) = ap good (sym (append_assoc done (v ∷ []) vs))

prefixed_none : (t : Typed) → t ≡ prefixed [] t
unfolding prefixed
prefixed_none (bad j) = refl
prefixed_none (good vs) = refl

-- ---- one more cell

set_next : {A : Type 0} (a : List A) (m : ℕ) (x y : A) → set (a ++ replicate (suc m) x) (length a) y ≡ (a ++ y ∷ []) ++ replicate m x
set_next [] m x y = refl
set_next {A} (z ∷ a) m x y = ap (λ (l : List A). z ∷ l) (set_next a m x y)

cells_step : (done : List Value) (k : ℕ) (v : Value) → length done ≡ k → k < 26 → set (cells_of done) k (cell v) ≡ cells_of (done ++ v ∷ [])
unfolding cells_of
cells_step done k v e h =
    let n : 26 - length done ≡ suc (26 - length (done ++ v ∷ [])) = omega (arith, length-append done (v ∷ [])) in
    let l : k ≡ length (map cell done) = sym e ∙ sym (length-map done cell) in
    rw (n, l, map-append cell done (v ∷ [])) (set_next (map cell done) (26 - length (done ++ v ∷ [])) (cell Blank) (cell v))

-- ---- the next text of the column

column_step : (n : ℕ) (file : List ℕ) (spans : List Span) (k : ℕ) → k < n → n < length spans
    → drop k (column_in n file spans) ≡ part_of file (span_at spans (k + 1)) ∷ drop (k + 1) (column_in n file spans)
column_step n file spans k h j =
    let e = column_at_lem n (suc k) file spans (omega arith) h j in
    rw add-one
    (drop-cons (column_in n file spans) k [] (omega (arith, column_length n file spans j)) ∙ ap (λ (t : List ℕ). t ∷ drop (suc k) (column_in n file spans)) e)

-- ---- the first k fields are read: their values stand in the cells, and what is to come is the column from k on

pub record Sofar (l : Layout) (col : List (List ℕ)) (k : ℕ) (cells : List Cell) : Type 0 where
  pub done : List Value
  pub count_is : length done ≡ k
  pub rest : typed 1 (kinds_of l) col ≡ prefixed done (typed (k + 1) (drop k (kinds_of l)) (drop k col))
  pub front : good_front (kinds_of l) col ≡ done ++ good_front (drop k (kinds_of l)) (drop k col)
  pub kept : cells ≡ cells_of done

pub start : (l : Layout) (col : List (List ℕ)) → Sofar l col 0 (replicate 26 (cell Blank))
unfolding cells_of
start l col = record { done = []; count_is = refl; rest = prefixed_none (typed 1 (kinds_of l) col); front = refl; kept = refl }

typed_at : (l : Layout) (col : List (List ℕ)) (k : ℕ) (x : List ℕ) → k < size_of l → drop k col ≡ x ∷ drop (k + 1) col
    → typed (k + 1) (drop k (kinds_of l)) (drop k col)
    ≡ joined (k + 1) (value_of (kind_at l (k + 1)) x) (typed (k + 1 + 1) (drop (k + 1) (kinds_of l)) (drop (k + 1) col))
unfolding typed
typed_at l col k x h e =
    let j : k < length (kinds_of l) = omega (arith, kinds_length l) in
    rw (e, drop-cons (kinds_of l) k no_kind j, add-one k, add-one (suc k), kind_at_lem l k)

front_at : (l : Layout) (col : List (List ℕ)) (k : ℕ) (x : List ℕ) → k < size_of l → drop k col ≡ x ∷ drop (k + 1) col
    → good_front (drop k (kinds_of l)) (drop k col) ≡ ahead (value_of (kind_at l (k + 1)) x) (good_front (drop (k + 1) (kinds_of l)) (drop (k + 1) col))
unfolding good_front
front_at l col k x h e =
    let j : k < length (kinds_of l) = omega (arith, kinds_length l) in
    rw (e, drop-cons (kinds_of l) k no_kind j, add-one k, kind_at_lem l k)

module _ (l : Layout) (file : List ℕ) (spans : List Span) (k : ℕ) (cells : List Cell) (s : Sofar l (column_in (size_of l) file spans) k cells)
    (p : Placed (size_of l) file spans) (h : k < size_of l) where
  abbrev col : List (List ℕ)
  col = column_in (size_of l) file spans

  abbrev text : List ℕ
  text = part_of file (span_at spans (k + 1))

  here : typed 1 (kinds_of l) col ≡ prefixed s.done (joined (k + 1) (value_of (kind_at l (k + 1)) text) (typed (k + 1 + 1) (drop (k + 1) (kinds_of l)) (drop (k + 1) col)))
  here =
      let j : size_of l < length spans = omega (arith, few l, p.long) in
      s.rest ∙ ap (prefixed s.done) (typed_at l col k text h (column_step (size_of l) file spans k h j))

  front_here : good_front (kinds_of l) col ≡ s.done ++ ahead (value_of (kind_at l (k + 1)) text) (good_front (drop (k + 1) (kinds_of l)) (drop (k + 1) col))
  front_here =
      let j : size_of l < length spans = omega (arith, few l, p.long) in
      s.front ∙ ap (λ (vs : List Value). s.done ++ vs) (front_at l col k text h (column_step (size_of l) file spans k h j))

  pub turn : (g : Option Value) (v : Value) → g ≡ value_of (kind_at l (k + 1)) text → g ≡ Some v → Sofar l col (k + 1) (set cells k (cell v))
  turn g v e r =
      record {
        done = s.done ++ v ∷ [];
        count_is = omega (arith, length-append s.done (v ∷ []), s.count_is);
        rest = here ∙ rw (sym e ∙ r) (prefixed_step (k + 1) s.done v (typed (k + 1 + 1) (drop (k + 1) (kinds_of l)) (drop (k + 1) col)));
        front = front_here ∙ rw (sym e ∙ r) (sym (append_assoc s.done (v ∷ []) (good_front (drop (k + 1) (kinds_of l)) (drop (k + 1) col))));
        kept = ap (λ (c : List Cell). set c k (cell v)) s.kept ∙ cells_step s.done k v s.count_is (omega (arith, few l));
      }

  pub stop : (g : Option Value) → g ≡ value_of (kind_at l (k + 1)) text → g ≡ None → record { bad = k + 1; cells = cells } ≡ filled_of (kinds_of l) col
  unfolding filled_of prefixed joined
  stop g e r = rw (s.kept, here, front_here, sym e ∙ r, append-nil s.done)

pub finish : (l : Layout) (col : List (List ℕ)) (k : ℕ) (cells : List Cell) → Sofar l col k cells → size_of l ≤ k → record { bad = 0; cells = cells } ≡ filled_of (kinds_of l) col
unfolding filled_of prefixed typed good_front
finish l col k cells s h =
    let j : length (kinds_of l) ≤ k = omega (arith, kinds_length l) in
    rw (s.kept, s.rest, s.front, drop_of_length-le (kinds_of l) j, append-nil s.done)

-- what holds at the loop's head
pub record Head (l : Layout) (file : List ℕ) (spans : List Span) (n k : ℕ) (cells : List Cell) : Type 0 where
  pub n_is : n ≡ size_of l
  pub room : length cells ≡ 26
  pub placed : Placed (size_of l) file spans
  pub sofar : Sofar l (column_in (size_of l) file spans) k cells
