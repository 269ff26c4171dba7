-- A parameter line is put as its label, the `=`, what stands after it, and its end; the lines are put one after another. Assumes nothing.
use Prim.Native.Nat.{ℕ, zero, suc, ◌+◌, ◌-◌, ◌≤◌, ◌<◌}
use Rattle.text.specs.Puts.{Puts}
use Rattle.value_ask.specs.Values.{is_filled}
use Rattle.layout_label.specs.Labels.{padded}
use Rattle.layout.proofs.Labels.{few, labels_length, label_at_lem, good_label}
use Rattle.layout.specs.Layouts.{labels_of, label_at, size_of, type_of}
use Rattle.layout.specs.Rows.{text_at}
use Rattle.layout.specs.declared.Layout.{Layout}
use Rattle.value_name.specs.declared.MessageType.{MessageType}
use Rattle.record.specs.Records.{cell, field_of}
use Rattle.record.specs.declared.Cell.{Cell}
use Rattle.text.proofs.Runs.{Run, puts, puts_of, puts_none, then, same_puts}
use Rattle.value.specs.Texts.{Rooms, value_text}
use Rattle.value.specs.declared.Value.{Value}
use Rattle.value.specs.declared.Value.TheVariants.{Blank}
use Rattle.writer_form.proofs.Columns.{column_of, blank_text, column_length, text_at_lem, field_short}
use Rattle.writer_form.proofs.Joins.{one_line_more, lines_short, first_lines}
use Rattle.writer_form.specs.Held.{Spoken, Held}
use Rattle.writer_form.specs.Written.{lines_text, after_equals, param_line, param_lines}
use lib.ListN.{length, get_or, take, replicate, length-append, length-replicate}
use lib.Seq.{sets, length-sets, take_all}
use mathlib.Core.Bool.{true, false}
use mathlib.Core.List.{List, [], ◌∷◌, ◌++◌, append_assoc}
use mathlib.Core.Path.{◌≡◌, refl, sym, ap, ◌∙◌}
use native.Mathlib.Numerals.{add-one}
use native.Mathlib.Omega.{arith}

-- ---- what stands after `=`

after_is : (s : List ℕ) → 1 ≤ length s → (32 ∷ []) ++ s ≡ after_equals s
unfolding after_equals
after_is [] h = absurd (omega arith)
after_is (b ∷ s) h = refl

pub after_short : (s : List ℕ) → length (after_equals s) ≤ length s + 1
unfolding after_equals
after_short [] = omega arith
after_short (b ∷ s) = omega arith

-- a text that is not empty, after a space; and none
pub put_said : (s : List ℕ) → 1 ≤ length s → (l : List ℕ) (at a : ℕ) (l₁ : List ℕ) (b : ℕ) (m : List ℕ)
    → (a ≡ at + 1) × (l₁ ≡ sets l at (32 ∷ [])) → Puts l₁ a s b m → Puts l at (after_equals s) b m
put_said s h l at a l₁ b m p q = same_puts (after_equals s) (after_is s h) (then (puts_of {t = 32 ∷ []} 1 refl p) (puts {t = s} q))

pub put_empty : (s : List ℕ) → length s ≡ 0 → (l : List ℕ) (at : ℕ) → Puts l at (after_equals s) at l
unfolding after_equals
put_empty [] h l at = same_puts [] refl (puts_none l at)
put_empty (b ∷ s) h l at = absurd (omega (arith, h))

module _ (t : MessageType) (r : Rooms) (v : Value) (l : List ℕ) (at : ℕ) where
  pub put_none : is_filled v ≡ false → Puts l at (after_equals (value_text t r v)) at l
  unfolding after_equals
  put_none e = same_puts (after_equals (value_text t r v)) (sym (ap after_equals (blank_text t r v e))) (puts_none l at)

  pub put_some : Spoken t r v → is_filled v ≡ true → (a : ℕ) (l₁ : List ℕ) (b : ℕ) (m : List ℕ)
      → (a ≡ at + 1) × (l₁ ≡ sets l at (32 ∷ [])) → Puts l₁ a (value_text t r v) b m → Puts l at (after_equals (value_text t r v)) b m
  put_some s e a l₁ b m p q = put_said (value_text t r v) (s.speaks e) l at a l₁ b m p q

-- ---- a line

pub padded_length : (name : List ℕ) → length name ≤ 36 → length (padded name) ≡ 36
unfolding padded
padded_length name h = omega (arith, length-append name (replicate (36 - length name) 32), length-replicate {A = ℕ} (36 - length name) 32)

-- the label with its blanks, `=` (61), what stands after it, and LF (10)
module _ (name s w : List ℕ) (short : length name ≤ 36) (same : s ≡ w)
    (l : List ℕ) (at a : ℕ) (l₁ : List ℕ) (b : ℕ) (l₂ : List ℕ) (c : ℕ) (l₃ : List ℕ) (r : ℕ) (m : List ℕ) where
  pub line_put : (text : List ℕ) → (a ≡ at + 36) × (l₁ ≡ sets l at text) → text ≡ padded name → (b ≡ a + 1) × (l₂ ≡ sets l₁ a (61 ∷ []))
      → Puts l₂ b (after_equals s) c l₃ → (r ≡ c + 1) × (m ≡ sets l₃ c (10 ∷ [])) → Puts l at (lines_text (param_line name w ∷ [])) r m
  unfolding lines_text param_line
  line_put text p is q u z =
      let eq : padded name ++ (61 ∷ []) ++ after_equals s ++ (10 ∷ []) ≡ padded name ++ (61 ∷ after_equals w) ++ (10 ∷ []) =
      ap (λ (x : List ℕ). x ++ (10 ∷ [])) (append_assoc (padded name) (61 ∷ []) (after_equals s) ∙ ap (λ (x : List ℕ). padded name ++ (61 ∷ after_equals x)) same) in
      let label : (a ≡ at + 36) × (l₁ ≡ sets l at (padded name)) = (p.0, p.1 ∙ ap (sets l at) is) in
      same_puts (padded name ++ (61 ∷ after_equals w) ++ (10 ∷ [])) eq
      (then (then (then (puts_of {t = padded name} 36 (padded_length name short) label) (puts_of {t = 61 ∷ []} 1 refl q)) (puts {t = after_equals s} u))
      (puts_of {t = 10 ∷ []} 1 refl z))

pub label_short : (l : Layout) (k : ℕ) → 1 ≤ k → k ≤ size_of l → length (label_at l k) ≤ 36
label_short l k h j = omega (arith, (good_label l k h j).short)

line_short : (name s : List ℕ) → length name ≤ 36 → length s ≤ 623 → length (lines_text (param_line name s ∷ [])) ≤ 700
unfolding lines_text param_line
line_short name s h k =
    omega (
      arith,
      length-append (padded name ++ (61 ∷ after_equals s)) (10 ∷ []),
      length-append (padded name) (61 ∷ after_equals s),
      padded_length name h,
      after_short s,
    )

-- ---- the lines of a layout

param_length : (ls col : List (List ℕ)) → length ls ≡ length col → length (param_lines ls col) ≡ length ls
unfolding param_lines
param_length [] col e = refl
param_length (x ∷ ls) [] e = absurd (omega (arith, e))
param_length (x ∷ ls) (s ∷ col) e = ap suc (param_length ls col (omega (arith, e)))

param_at : (ls col : List (List ℕ)) (i : ℕ) → length ls ≡ length col → i < length ls → get_or (param_lines ls col) i [] ≡ param_line (get_or ls i []) (get_or col i [])
unfolding param_lines
param_at [] col i e h = absurd (omega arith)
param_at (x ∷ ls) [] i e h = absurd (omega (arith, e))
param_at (x ∷ ls) (s ∷ col) zero e h = refl
param_at (x ∷ ls) (s ∷ col) (suc i) e h = param_at ls col i (omega (arith, e)) (omega arith)

-- a line for each label of a layout, with the texts of a column
abbrev pub lines_with : Layout → List (List ℕ) → List (List ℕ)
lines_with l col = param_lines (labels_of l) col

abbrev pub lines_of : Layout → Rooms → List Cell → List (List ℕ)
lines_of l r cells = lines_with l (column_of l r cells)

module _ (l : Layout) (col : List (List ℕ)) (full : length col ≡ size_of l) where
  same_count : length (labels_of l) ≡ length col
  same_count = labels_length l ∙ sym full

  lines_count : length (lines_with l col) ≡ size_of l
  lines_count = param_length (labels_of l) col same_count ∙ labels_length l

  line_at : (i : ℕ) → i < size_of l → get_or (lines_with l col) i [] ≡ param_line (label_at l (suc i)) (text_at col (suc i))
  line_at i h =
      param_at (labels_of l) col i same_count (omega (arith, labels_length l))
      ∙ ap (λ (x : List ℕ). param_line x (get_or col i [])) (sym (label_at_lem l i))

pub all_lines_short : (l : Layout) (r : Rooms) (cells : List Cell) → Held l r cells → length r.gradients ≡ 16
    → length (lines_text (lines_of l r cells)) ≤ 18200
all_lines_short l r cells held g =
    let full = column_length l r cells held in
    let count = lines_count l (column_of l r cells) full in
    let one : (i : ℕ) → i < length (lines_of l r cells) → length (lines_text (get_or (lines_of l r cells) i [] ∷ [])) ≤ 700 =
    λ i h.
    let j : i < size_of l = omega (arith, count) in
    rw (line_at l (column_of l r cells) full i j)
    (line_short (label_at l (suc i)) (text_at (column_of l r cells) (suc i)) (label_short l (suc i) (omega arith) j)
    (field_short l r cells held g (suc i) (omega arith) j)) in
    omega (arith, lines_short (lines_of l r cells) one, count, few l)

-- ---- the loop

-- the first k lines are put
pub record Sofar (l : Layout) (col : List (List ℕ)) (out : List ℕ) (at k p : ℕ) (m : List ℕ) : Type 0 where
  pub near : k ≤ size_of l
  pub done : Run out at (lines_text (take k (lines_with l col))) p m

module _ (l : Layout) (col : List (List ℕ)) (out : List ℕ) (at : ℕ) where
  pub start : Sofar l col out at 0 at out
  unfolding lines_text
  start = record { near = omega arith; done = puts_none out at }

  pub same_room : (k p : ℕ) (m : List ℕ) → Sofar l col out at k p m → length m ≡ length out
  same_room k p m s = ap length s.done.bytes ∙ length-sets out at (lines_text (take k (lines_with l col)))

  module _ (full : length col ≡ size_of l) (k p : ℕ) (m : List ℕ) (s : Sofar l col out at k p m) where
    pub place_low : (n : ℕ) → length (lines_text (lines_with l col)) ≤ n → p ≤ at + n
    place_low n h = omega (arith, s.done.place, first_lines (lines_with l col) k)

    pub turn : k < size_of l → (text : List ℕ) → text_at col (suc k) ≡ text → (q : ℕ) (m' : List ℕ)
        → Puts m p (lines_text (param_line (label_at l (k + 1)) text ∷ [])) q m'
        → Sofar l col out at (k + 1) q m'
    turn h text is q m' w =
        let line = param_line (label_at l (suc k)) text in
        let e : get_or (lines_with l col) k [] ≡ line = line_at l col full k h ∙ ap (param_line (label_at l (suc k))) is in
        let j : k < length (lines_with l col) = omega (arith, lines_count l col full) in
        rw add-one
        record {
          near = h;
          done =
              puts
              (same_puts (lines_text (take (suc k) (lines_with l col)))
              (ap (λ (x : List ℕ). lines_text (take k (lines_with l col)) ++ lines_text (x ∷ [])) (sym e) ∙ sym (one_line_more (lines_with l col) k j))
              (then s.done (puts {t = lines_text (line ∷ [])} (rw add-one at w))));
        }

    pub finish : size_of l ≤ k → Puts out at (lines_text (lines_with l col)) p m
    finish h = same_puts (lines_text (lines_with l col)) (ap lines_text (take_all k (lines_with l col) (omega (arith, lines_count l col full)))) s.done

-- with the texts of a record's values
module _ (l : Layout) (r : Rooms) (cells : List Cell) (held : Held l r cells) where
  pub full : length (column_of l r cells) ≡ size_of l
  full = column_length l r cells held

  pub text_of : (k : ℕ) → k < size_of l → text_at (column_of l r cells) (suc k) ≡ value_text (type_of l) r (get_or cells k (cell Blank)).value
  unfolding field_of
  text_of k h = text_at_lem l r cells (suc k) (omega arith) h
