-- Parameter lines with the texts that stand in a file: how long they are, and which stands where. Assumes nothing.
use Prim.Native.Nat.{ℕ, suc, ◌+◌, ◌*◌, ◌≤◌, ◌<◌}
use Rattle.writer_lines.proofs.Lines.{lines_with, padded_length, after_short, label_short}
use Rattle.layout_label.specs.Labels.{padded}
use Rattle.layout.proofs.Labels.{few, labels_length, label_at_lem}
use Rattle.layout.specs.Layouts.{labels_of, size_of}
use Rattle.layout.specs.Rows.{text_at}
use Rattle.layout.specs.declared.Layout.{Layout}
use Rattle.text_lines.proofs.Columns.{column_at_lem, column_length}
use Rattle.text_lines.specs.Places.{part_of, span_at, Placed, column_in}
use Rattle.text_lines.specs.declared.Span.{Span}
use Rattle.text.proofs.Cuts.{length_part}
use Rattle.writer_form.specs.Written.{lines_text, after_equals, param_line, param_lines}
use lib.ListN.{length, get_or, length-append}
use mathlib.Core.List.{List, [], ◌∷◌, ◌++◌}
use mathlib.Core.Path.{◌≡◌, sym, subst}
use native.Mathlib.Numerals.{add-one}
use native.Mathlib.Omega.{arith}

-- lines with texts of at most 8,192 bytes
lines_bound : (ls col : List (List ℕ)) → ((i : ℕ) → i < length ls → length (get_or ls i []) ≤ 36)
    → ((i : ℕ) → i < length col → length (get_or col i []) ≤ 8192) → length (lines_text (param_lines ls col)) ≤ 8240 * length ls
unfolding lines_text param_lines param_line
lines_bound [] col a b = omega arith
lines_bound (x ∷ ls) [] a b = omega arith
lines_bound (x ∷ ls) (s ∷ col) a b =
    let more = lines_bound ls col (λ i h. a (suc i) (omega arith)) (λ i h. b (suc i) (omega arith)) in
    omega (
      arith,
      more,
      length-append (padded x ++ (61 ∷ after_equals s)) (10 ∷ lines_text (param_lines ls col)),
      length-append (padded x) (61 ∷ after_equals s),
      padded_length x (a 0 (omega arith)),
      after_short s,
      b 0 (omega arith),
    )

module _ (l : Layout) (file : List ℕ) (places : List Span) (placed : Placed (size_of l) file places) where
  abbrev col : List (List ℕ)
  col = column_in (size_of l) file places

  long : size_of l < length places
  long = omega (arith, few l, placed.long)

  pub column_full : length col ≡ size_of l
  column_full = column_length (size_of l) file places long

  -- the text of the field after k is what stands at its place
  pub text_there : (k : ℕ) → k < size_of l → text_at col (suc k) ≡ part_of file (span_at places (k + 1))
  text_there k h = rw add-one (column_at_lem (size_of l) (suc k) file places (omega arith) h long)

  -- which has at most as many bytes as the file
  pub part_small : length file ≤ 8192 → (k : ℕ) → 1 ≤ k → k ≤ size_of l → length (part_of file (span_at places k)) ≤ 8192
  part_small s k h j = omega (arith, length_part (span_at places k).from (span_at places k).to file (placed.inside k h j), placed.inside k h j)

  pub all_lines_small : length file ≤ 8192 → length (lines_text (lines_with l col)) ≤ 214240
  all_lines_small s =
      let names : (i : ℕ) → i < length (labels_of l) → length (get_or (labels_of l) i []) ≤ 36 =
      λ i h. subst (λ (x : List ℕ). length x ≤ 36) (label_at_lem l i) (label_short l (suc i) (omega arith) (omega (arith, labels_length l))) in
      let texts : (i : ℕ) → i < length col → length (get_or col i []) ≤ 8192 =
      λ i h.
      let j : i < size_of l = omega (arith, column_full) in
      subst (λ (x : List ℕ). length x ≤ 8192) (sym (text_there i j)) (part_small s (i + 1) (omega arith) (omega arith)) in
      omega (arith, lines_bound (labels_of l) col names texts, few l, labels_length l)
