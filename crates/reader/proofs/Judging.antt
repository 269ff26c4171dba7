-- Refusals 7 to 10 as the code meets them: one law for each way out of `judge`, and what its verdict says of the values. Assumes nothing.
use Prim.Native.Nat.{ℕ, ◌≤◌, ◌<◌}
use Rattle.reader_fill.proofs.Records.{record_with_lem, typed_bad_some, front_good}
use Rattle.reader_fill.specs.Filled.{Filled, filled_of, triples_of, record_with}
use Rattle.layout.proofs.Labels.{few, some_fields}
use Rattle.layout.specs.Layouts.{kinds_of, size_of}
use Rattle.layout.specs.Rows.{text_at, row_of}
use Rattle.layout.specs.declared.Layout.{Layout}
use Rattle.text_lines.proofs.Columns.{column_at_lem}
use Rattle.text_lines.specs.Places.{part_of, span_at, Placed}
use Rattle.text_lines.specs.declared.Span.{Span}
use Rattle.value_list.specs.declared.Triple.{Triple}
use Rattle.reader.proofs.Firsts.{answer_yes, answer_no, none_given}
use Rattle.reader.specs.Messages.{values_of, is_bad, good_of, column_record}
use Rattle.reader.specs.Reader.{valued}
use Rattle.reader.specs.Refusals.{refused, accepted}
use Rattle.reader.specs.State.{column_at, Filling, verdict, finished, Judges}
use Rattle.reader.specs.State.{Verdict}
use Rattle.record.specs.Records.{Typed, typed, cells_of, bad_of}
use Rattle.record.specs.Records.Typed.{bad, good}
use Rattle.record.specs.declared.Cell.{Cell}
use Rattle.record_rules.proofs.Told.{not_zero}
use Rattle.record_rules.specs.Broken.{rule_number, broken_number}
use Rattle.record_rules.specs.Rules.{rules_of, lowest, broken_in}
use Rattle.record_rules.specs.declared.Rule.{Rule}
use Rattle.std.specs.Prelude.{Option, Some}
use Rattle.text.proofs.Tests.{by_test, by_eq}
use Rattle.text.specs.Bytes.{same}
use Rattle.text.specs.Refusals.{none}
use borrow.Author.Tests.{lt-ltb, le-ltb}
use lib.Dec.{ltb}
use lib.ListN.{length}
use mathlib.Core.Bool.{Bool, true, false, not}
use mathlib.Core.List.{List}
use mathlib.Core.Path.{◌≡◌, refl, sym, ap, ap₂, ◌∙◌, subst}
use native.Mathlib.Omega.{arith}

-- ---- what `fill` gave

module _ (l : Layout) (col : List (List ℕ)) (f : Filled) (e : f ≡ filled_of (kinds_of l) col) where
  bad_is : f.bad ≡ bad_of (values_of l col)
  unfolding filled_of values_of
  bad_is = ap (λ (x : Filled). x.bad) e

  bad_field : (y : Typed) → f.bad ≡ bad_of y → (f.bad ≡ 0 → ⊥) → is_bad y ≡ true
  bad_field (bad k) g n = refl
  bad_field (good vs) g n = absurd (n g)

  is_bad_lem : (f.bad ≡ 0 → ⊥) → (is_bad (values_of l col) ≡ true) × (f.bad ≡ bad_of (values_of l col))
  is_bad_lem n = (bad_field (values_of l col) bad_is n, bad_is)

  good_fields : (y : Typed) → typed 1 (kinds_of l) col ≡ y → f.bad ≡ bad_of y → f.bad ≡ 0 → (is_bad y ≡ false) × (f.cells ≡ cells_of (good_of y))
  unfolding filled_of
  good_fields (bad k) q g n = absurd (omega (arith, typed_bad_some 0 (kinds_of l) col k q, g, n))
  good_fields (good vs) q g n = (refl, ap (λ (x : Filled). x.cells) e ∙ ap cells_of (front_good 1 (kinds_of l) col vs q))

  is_good : f.bad ≡ 0 → (is_bad (values_of l col) ≡ false) × (f.cells ≡ cells_of (good_of (values_of l col)))
  unfolding values_of
  is_good n = good_fields (typed 1 (kinds_of l) col) refl bad_is n

  is_body : f.bad ≡ 0 → (gs : List Triple) → gs ≡ triples_of l col → record_with l col f.cells gs ≡ column_record l col
  unfolding column_record
  is_body n gs g = ap₂ (record_with l col) (is_good n).1 g ∙ record_with_lem l col (good_of (values_of l col))

  -- the rules on the cells and triples are those of the record
  is_broken : f.bad ≡ 0 → (gs : List Triple) → gs ≡ triples_of l col → lowest (rules_of l f.cells gs) ≡ broken_in (column_record l col)
  unfolding broken_in record_with
  is_broken n gs g = ap broken_in (is_body n gs g)

-- ---- the place of the unit, field 2

module _ (l : Layout) (file : List ℕ) (places : List Span) (p : Placed (size_of l) file places) where
  two_few : 2 ≤ size_of l
  two_few = omega (arith, some_fields l)

  pub unit_ordered : (span_at places 2).from ≤ (span_at places 2).to
  unit_ordered = p.ordered 2 (omega arith) two_few

  pub unit_inside : (span_at places 2).to ≤ length file
  unit_inside = p.inside 2 (omega arith) two_few

  unit_text : part_of file (span_at places 2) ≡ text_at (column_at l file places) 2
  unit_text = let h : size_of l < length places = omega (arith, few l, p.long) in sym (column_at_lem (size_of l) 2 file places (omega arith) two_few h)

  pub unit_same : (unit front : List ℕ) → front ≡ unit → (b : Bool) → b ≡ same front (part_of file (span_at places 2))
      → b ≡ same unit (text_at (column_at l file places) 2)
  unit_same unit front f b e = e ∙ ap (λ (t : List ℕ). same t (part_of file (span_at places 2))) f ∙ ap (same unit) unit_text

-- ---- the ways out of `judge`

module _ (k : ℕ) (unit row : Bool) where
  pub rule_verdict : (k ≡ 0 → ⊥) → record { number = 8; detail = k } ≡ verdict k unit row
  unfolding verdict
  rule_verdict n = let h : 0 < k = omega (arith, n) in rw (lt-ltb 0 k h)

  module _ (z : k ≡ 0) where
    pub unit_verdict : unit ≡ false → record { number = 9; detail = 0 } ≡ verdict k unit row
    unfolding verdict
    unit_verdict u = rw (z, u)

    pub row_verdict : unit ≡ true → row ≡ false → record { number = 10; detail = 0 } ≡ verdict k unit row
    unfolding verdict
    row_verdict u w = rw (z, u, w)

    pub well_verdict : unit ≡ true → row ≡ true → record { number = 0; detail = 0 } ≡ verdict k unit row
    unfolding verdict
    well_verdict u w = rw (z, u, w)

-- by the rule that is broken
pub broken_verdict : (broken : Option Rule) (r : Rule) (n : ℕ) (unit row : Bool) → broken ≡ Some r → n ≡ rule_number r
    → record { number = 8; detail = n } ≡ verdict (broken_number broken) unit row
broken_verdict broken r n unit row is e =
    ap (λ (d : ℕ). record { number = 8; detail = d }) e
    ∙ rule_verdict (rule_number r) unit row (not_zero r)
    ∙ ap (λ (b : Option Rule). verdict (broken_number b) unit row) (sym is)

-- ---- what is judged of the values

module _ (l : Layout) (unit file : List ℕ) (row : Span) (places : List Span) (b : ℕ) (cells : List Cell) (gs : List Triple) (f : Filling l file row places b cells gs) where
  abbrev col : List (List ℕ)
  col = column_at l file places

  abbrev given : Filled
  given = record { bad = b; cells = cells }

  abbrev Judged : ℕ → ℕ → Type 0
  Judged n d = Judges l unit (part_of file row) (column_at l file places) n d cells gs

  pub bad_value : (b ≡ 0 → ⊥) → Judged 7 b
  unfolding valued finished
  bad_value n =
      let h = is_bad_lem l col given f.filled n in
      ap (refused 7) h.1 ∙ sym (answer_yes 7 _ _ _ _ h.0)

  module _ (n : b ≡ 0) (k : ℕ) (q : k ≡ lowest (rules_of l cells gs)) where
    values : is_bad (values_of l col) ≡ false
    values = (is_good l col given f.filled n).0

    broken_is : k ≡ broken_in (column_record l col)
    broken_is = q ∙ is_broken l col given f.filled n gs f.triples

    broken_rule : (k ≡ 0 → ⊥) → Judged 8 k
    unfolding valued finished
    broken_rule h =
        let q : 0 < broken_in (column_record l col) = omega (arith, broken_is, h) in
        ap (refused 8) broken_is ∙ sym (answer_no 7 _ _ _ _ values ∙ answer_yes 8 _ _ _ _ (lt-ltb 0 (broken_in (column_record l col)) q))

    module _ (zero_k : k ≡ 0) where
      unbroken : ltb 0 (broken_in (column_record l col)) ≡ false
      unbroken = let h : broken_in (column_record l col) ≤ 0 = omega (arith, broken_is, zero_k) in le-ltb 0 (broken_in (column_record l col)) h

      other_unit : same unit (text_at col 2) ≡ false → Judged 9 0
      unfolding valued finished
      other_unit u = sym (answer_no 7 _ _ _ _ values ∙ answer_no 8 _ _ _ _ unbroken ∙ answer_yes 9 _ _ _ _ (ap not u))

      module _ (units : same unit (text_at col 2) ≡ true) where
        its_unit : not (same unit (text_at col 2)) ≡ false
        its_unit = ap not units

        other_row : same (part_of file row) (row_of l col) ≡ false → Judged 10 0
        unfolding valued finished
        other_row w =
            sym (answer_no 7 _ _ _ _ values ∙ answer_no 8 _ _ _ _ unbroken ∙ answer_no 9 _ _ _ _ its_unit ∙ answer_yes 10 _ _ _ _ (ap not w))

        all_well : same (part_of file row) (row_of l col) ≡ true → Judged 0 0
        unfolding valued finished
        all_well w =
            ap accepted (is_body l col given f.filled n gs f.triples)
            ∙ sym (answer_no 7 _ _ _ _ values ∙ answer_no 8 _ _ _ _ unbroken ∙ answer_no 9 _ _ _ _ its_unit ∙ answer_no 10 _ _ _ _ (ap not w) ∙ none_given _ none)

    -- by the verdict
    pub by_verdict : (e : Verdict) → e ≡ verdict k (same unit (text_at col 2)) (same (part_of file row) (row_of l col)) → Judged e.number e.detail
    by_verdict e v =
        by_eq k 0
        (λ z.
        by_test (same unit (text_at col 2))
        (λ u.
        by_test (same (part_of file row) (row_of l col))
        (λ w. of_early (well_verdict k _ _ z u w) (all_well z u w))
        (λ w. of_early (row_verdict k _ _ z u w) (other_row z u w)))
        (λ u. of_early (unit_verdict k _ _ z u) (other_unit z u)))
        (λ h. of_early (rule_verdict k _ _ h) (broken_rule h))
      where
        of_early : {x : Verdict} → x ≡ verdict k (same unit (text_at col 2)) (same (part_of file row) (row_of l col))
            → Judged x.number x.detail → Judged e.number e.detail
        of_early q j = subst (λ (y : Verdict). Judged y.number y.detail) (q ∙ sym v) j
