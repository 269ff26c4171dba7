-- A line with the label that is expected tried first: where it ends, and what it is. Assumes nothing.
use Prim.Native.Nat.{ℕ, ◌+◌, ◌-◌, ◌≤◌, ◌<◌}
use Rattle.reader_line.proofs.Heads.{Headed, headed, run_past, line_past}
use Rattle.reader_line.proofs.Labels.{good_at}
use Rattle.reader_line.proofs.Meanings.{its_field, as_field}
use Rattle.reader_line.specs.Items.{first_labels, second_labels, head_of, IsExpected, item, line_from, fielded, item_in, item_of}
use Rattle.reader_line.specs.declared.Expected.{Expected}
use Rattle.layout.proofs.Labels.{GoodLabel}
use Rattle.layout.specs.Layouts.{label_at}
use Rattle.reader_accent.proofs.Table.{accents_good}
use Rattle.reader_accent.specs.Accents.{accents_of}
use Rattle.text_lines.proofs.Params.{sep_equals, equals_trim, blanks_equals, trim_end_blanks}
use Rattle.text_lines.proofs.Steps.{run_length}
use Rattle.text_lines.specs.Entries.{place_of}
use Rattle.text_lines.specs.Lines.{is_sep}
use Rattle.text_lines.proofs.Spelt.{opens_rest, plain_unaccented, respell_plain}
use Rattle.text_lines.specs.Places.{not_plain, plain_run, line_run, trimmed_at, value_span}
use Rattle.text_lines.specs.Spellings.{Spelling, opens, respell}
use Rattle.text_lines.specs.Spots.{field_in}
use Rattle.text_lines.specs.declared.Span.{Span}
use Rattle.value_name.specs.declared.MessageType.{MessageType}
use Rattle.text.proofs.Cuts.{tail, upto_take, any_append, any_seam, upto_seam, past_seam}
use Rattle.text.proofs.Tests.{by_test, by_eq, and_parts}
use Rattle.text.proofs.Trims.{tidy_parts}
use Rattle.text.specs.Bytes.{part, upto, past, all, any, is, is_plain, first_of, trim}
use borrow.Author.Tests.{eq-eqb, ne_eqb, eqb-true}
use lib.Dec.{eqb}
use lib.ListN.{length, take, drop, length-append, length-drop}
use lib.Seq.{drop-drop}
use mathlib.Core.Bool.{true, false, ◌&&◌, cond, and-false}
use mathlib.Core.List.{List, ◌∷◌, ◌++◌, append_assoc}
use mathlib.Core.Path.{◌≡◌, refl, sym, ap, ap₂, ◌∙◌}
use native.Mathlib.Omega.{arith}

-- ---- a line that begins as it was expected to

-- the bytes from `at` to the end of its first run of printable ones
pub run_part : (file : List ℕ) (at end : ℕ) → end ≡ at + plain_run (drop at file) → part at end file ≡ upto not_plain (drop at file)
run_part file at end e =
    let n : end - at ≡ plain_run (drop at file) = omega arith in
    ap (λ (k : ℕ). take k (drop at file)) n ∙ sym (upto_take not_plain (drop at file))

-- and to the line's end
pub line_is : (sp : List Spelling) (file : List ℕ) (at end : ℕ) → end ≡ at + line_run sp (drop at file) → part at end file ≡ line_from sp file at
line_is sp file at end e = let n : end - at ≡ line_run sp (drop at file) = omega arith in ap (λ (k : ℕ). take k (drop at file)) n

module _ (t : MessageType) (file : List ℕ) (at n h : ℕ) (x : Expected) (hx : IsExpected t x)
    (hh : h ≡ head_of (label_at x.layout x.field) (drop at file)) (some_head : 0 < h) where
  abbrev label : List ℕ
  label = label_at x.layout x.field

  begins : Headed label (drop at file) h
  begins = headed label (drop at file) h hh some_head

  good : GoodLabel label
  good = good_at x.layout x.field begins.some_label

  pub expected_fits : at ≤ length file → at + h ≤ length file
  expected_fits a =
      omega (
        arith,
        ap length begins.cut,
        length-append label (begins.front ++ 61 ∷ drop h (drop at file)),
        length-append begins.front (61 ∷ drop h (drop at file)),
        begins.size,
        length-drop at file,
      )

  -- the line ends where the bytes behind '=' do
  pub expected_end : (end k : ℕ) → k ≡ plain_run (drop (at + h) file) → end ≡ at + h + k → end ≡ at + plain_run (drop at file)
  expected_end end k r e =
      omega (arith, e, r, run_past label (drop at file) h begins (tidy_parts label good.is_tidy).0, ap plain_run (drop-drop h at file))

  -- such a label has no accent: the line is its first run of printable bytes
  abbrev line : List ℕ
  line = upto not_plain (drop at file)

  -- the label with the blanks behind it, and the value
  abbrev front : List ℕ
  front = label ++ begins.front

  abbrev value : List ℕ
  value = upto not_plain (drop h (drop at file))

  cut : line ≡ front ++ 61 ∷ value
  cut = line_past label (drop at file) h begins (tidy_parts label good.is_tidy).0 ∙ sym (append_assoc label begins.front (61 ∷ value))

  no_equals_before : any (is 61) front ≡ false
  no_equals_before = any_append (is 61) label begins.front good.no_equals (blanks_equals begins.front begins.blank)

  equals : any (is 61) line ≡ true
  equals = ap (any (is 61)) cut ∙ any_seam (is 61) front 61 value refl

  before_is : upto (is 61) line ≡ front
  before_is = ap (upto (is 61)) cut ∙ upto_seam (is 61) front 61 value no_equals_before refl

  label_is : trim (upto (is 61) line) ≡ label
  label_is = ap trim before_is ∙ trim_end_blanks label begins.front begins.blank ∙ (tidy_parts label good.is_tidy).1

  plain_label : all is_plain label ≡ true
  plain_label = (tidy_parts label good.is_tidy).0

  field : (ls : List (List ℕ)) → place_of ls label ≡ field_in (accents_of t) ls line
  field ls =
      ap (place_of ls) (sym (ap (respell (accents_of t)) label_is ∙ respell_plain (accents_of t) label (accents_good t) plain_label))
      ∙ its_field (accents_of t) ls line equals

  -- what is left of the file begins so too
  left_cut : drop at file ≡ front ++ 61 ∷ drop h (drop at file)
  left_cut = begins.cut ∙ sym (append_assoc label begins.front (61 ∷ drop h (drop at file)))

  left_label : trim (upto (is 61) (drop at file)) ≡ label
  left_label =
      ap trim (ap (upto (is 61)) left_cut ∙ upto_seam (is 61) front 61 (drop h (drop at file)) no_equals_before refl)
      ∙ trim_end_blanks label begins.front begins.blank ∙ (tidy_parts label good.is_tidy).1

  no_accent : opens (accents_of t) (upto (is 10) (drop at file)) ≡ false
  no_accent =
      opens_rest (accents_of t) (drop at file) (accents_good t)
      ∙ rw (left_label, plain_unaccented (accents_of t) label (accents_good t) plain_label) (and-false (any (is 61) (drop at file)))

  run_is_line : line_from (accents_of t) file at ≡ line
  unfolding line_run
  run_is_line = rw no_accent (sym (upto_take not_plain (drop at file)))

  value_span_lem : (end : ℕ) → end ≡ at + h + plain_run (drop (at + h) file) → trimmed_at (at + h) (part (at + h) end file) ≡ value_span at line
  value_span_lem end e =
      let first : at + h ≡ at + first_of 61 line + 1 = omega (arith, ap length before_is, length-append label begins.front, begins.size) in
      let rest : part (at + h) end file ≡ past (is 61) line =
      run_part file (at + h) end e ∙ ap (upto not_plain) (sym (drop-drop h at file))
      ∙ sym (ap (past (is 61)) cut ∙ past_seam (is 61) front 61 value no_equals_before refl) in
      ap₂ trimmed_at first rest

  some_of_both : (eqb x.first 0 && eqb x.second 0) ≡ false
  some_of_both =
      by_test (eqb x.first 0 && eqb x.second 0)
      (λ z.
      let w = and_parts (eqb x.first 0) (eqb x.second 0) z in
      absurd (omega (arith, hx.some_field begins.some_label, eqb-true x.first 0 w.0, eqb-true x.second 0 w.1)))
      (λ z. z)

  pub as_expected : (end : ℕ) (v : Span) → end ≡ at + h + plain_run (drop (at + h) file) → (n ≡ 1 → ⊥) → v ≡ trimmed_at (at + h) (part (at + h) end file)
      → item end false x.first x.second v ≡ item_of t file at n
  unfolding item_of fielded
  as_expected end v e ne v_is =
      let size : end ≡ at + length line = expected_end end (plain_run (drop (at + h) file)) refl e in
      let no_sep : is_sep (trim line) ≡ false = sep_equals (trim line) (equals_trim line ∙ equals) in
      let a = hx.first begins.some_label ∙ field (first_labels t) in
      let b = hx.second begins.some_label ∙ field (second_labels t) in
      let here : item end false x.first x.second v ≡ fielded end x.first x.second at line = rw (some_of_both, v_is ∙ value_span_lem end e) in
      here
      ∙ ap₂ (λ (f g : ℕ). fielded end f g at line) a b
      ∙ ap (λ (k : ℕ). fielded k (field_in (accents_of t) (first_labels t) line) (field_in (accents_of t) (second_labels t) line) at line) size
      ∙ as_field (accents_of t) t n at line no_sep ne
      ∙ ap (item_in (accents_of t) t n at) (sym run_is_line)

-- ---- what the code finds: h bytes of an expected label and '=', 0 where they do not stand there, and k printable bytes behind them

module _ (t : MessageType) (file : List ℕ) (at n : ℕ) (x : Expected) (hx : IsExpected t x) (h k : ℕ) (inside : at ≤ length file)
    (hh : h ≡ cond (eqb n 1) 0 (head_of (label_at x.layout x.field) (part at (length file) file))) where
  head_is : (n ≡ 1 → ⊥) → h ≡ head_of (label_at x.layout x.field) (drop at file)
  head_is ne = rw (ne_eqb n 1 ne) at hh ∙ ap (head_of (label_at x.layout x.field)) (tail file at)

  not_row : 0 < h → n ≡ 1 → ⊥
  not_row s one = let z : h ≡ 0 = rw (eq-eqb n 1 one) at hh in omega arith

  pub head_inside : at + h ≤ length file
  head_inside =
      by_eq h 0 (λ z. omega arith)
      (λ z. let s : 0 < h = omega arith in expected_fits t file at n h x hx (head_is (not_row s)) s inside)

  module _ (hk : k ≡ plain_run (part (at + h) (length file) file)) where
    run_is : k ≡ plain_run (drop (at + h) file)
    run_is = hk ∙ ap plain_run (tail file (at + h))

    pub run_inside : at + h + k ≤ length file
    run_inside = omega (arith, run_is, run_length (drop (at + h) file), length-drop (at + h) file, head_inside)

    pub met : 0 < h → (v : Span) → v ≡ trimmed_at (at + h) (part (at + h) (at + h + k) file)
        → item (at + h + k) false x.first x.second v ≡ item_of t file at n
    met s v w = as_expected t file at n h x hx (head_is (not_row s)) s (at + h + k) v (ap (λ (j : ℕ). at + h + j) run_is) (not_row s) w

    module _ (s : h ≤ 0) where
      -- of any other line the first run of printable bytes was found
      pub run_there : at + h + k ≡ at + plain_run (drop at file)
      run_there = let z : at + h ≡ at = omega arith in omega (arith, run_is, ap (λ (j : ℕ). plain_run (drop j file)) z)
