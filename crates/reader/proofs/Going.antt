-- What was read of a message's values, as the code meets it: the loop of `fill`, and where each way out of `judged` leads. Assumes nothing.
use Rattle.std.specs.Prelude.{None, Option, Some, Ok, Err}
use Prim.Native.Nat.{ℕ, ◌+◌, ◌≤◌, ◌<◌}
use Rattle.reader_fill.proofs.Gradients.{field_value}
use Rattle.reader_fill.proofs.Steps.{turn, stop, finish, Head}
use Rattle.reader_fill.specs.Filled.{Filled, filled_of, triples_of, value_with}
use Rattle.layout.specs.Layouts.{kinds_of, kind_at, size_of}
use Rattle.layout.specs.Rows.{text_at, row_of}
use Rattle.layout.specs.declared.Layout.{Layout}
use Rattle.text_lines.specs.Places.{part_of, span_at}
use Rattle.text_lines.specs.declared.Span.{Span}
use Rattle.value_list.specs.Forms.{gradients_in, counted_triples}
use Rattle.value_list.specs.declared.Triple.{Triple}
use Rattle.reader.proofs.Concluding.{values_refused, values_read}
use Rattle.reader.proofs.Judging.{bad_value, by_verdict}
use Rattle.reader.specs.Readings.{ReadingSaid, unread, reading_of}
use Rattle.reader.specs.Said.{filled_by}
use Rattle.reader.specs.State.{LocatedSaid, column_at, Locates, Filling, Verdict, verdict, Values}
use Rattle.layout.specs.FieldNumbers.{gradients_field}
use Rattle.record.specs.Records.{cell}
use Rattle.record.specs.declared.Cell.{Cell}
use Rattle.record_rules.specs.Rules.{rules_of, lowest}
use Rattle.refusal.specs.Numbers.{number_of, detail_of}
use Rattle.refusal.specs.declared.Refusal.TheVariants.{BadValue}
use Rattle.refusal.specs.declared.Refusal.{Refusal}
use Rattle.text.proofs.Tests.{by_eq}
use Rattle.text.specs.Bytes.{same}
use Rattle.value.specs.Kinds.{value_of}
use Rattle.value.specs.declared.Value.{Value}
use borrow.Author.Tests.{eq-eqb, ne_eqb}
use lib.ListN.{take, set, length-set}
use mathlib.Core.List.{List}
use mathlib.Core.Path.{◌≡◌, refl, sym, ap, ◌∙◌}
use native.Mathlib.Omega.{arith}

-- ---- the loop over the fields

module _ (l : Layout) (file : List ℕ) (places : List Span) (triples : Option ℕ)
    (gs : triples ≡ counted_triples (gradients_in (text_at (column_at l file places) (gradients_field l)))) (n k : ℕ) (cells : List Cell)
    (head : Head l file places n k cells) where
  -- the next field
  module _ (more : k < n) (v : Option Value) (read : v ≡ value_with l (k + 1) triples (part_of file (span_at places (k + 1)))) where
    in_size : k < size_of l
    in_size = omega (arith, more, head.n_is)

    its_value : v ≡ value_of (kind_at l (k + 1)) (part_of file (span_at places (k + 1)))
    its_value =
        field_value l file places k head.placed in_size (gradients_in (text_at (column_at l file places) (gradients_field l))) refl v
        (read ∙ ap (λ (t : Option ℕ). value_with l (k + 1) t (part_of file (span_at places (k + 1)))) gs)

    stops_with : v ≡ None → record { bad = k + 1; cells = cells } ≡ filled_of (kinds_of l) (column_at l file places)
    stops_with e = stop l file places k cells head.sofar head.placed in_size v its_value e

    pub stops : v ≡ None → (Err (BadValue (k + 1)) ≡ filled_by (filled_of (kinds_of l) (column_at l file places)).bad)
        × (cells ≡ (filled_of (kinds_of l) (column_at l file places)).cells)
    stops e =
        let h : k + 1 ≡ 0 → ⊥ = λ z. omega (arith, z) in
        let f = stops_with e in
        (rw (← f, ne_eqb (k + 1) 0 h), ap (λ (x : Filled). x.cells) f)

    pub goes_on : (w : Value) → v ≡ Some w → Head l file places n (k + 1) (set cells k (cell w))
    goes_on w e =
        record {
          n_is = head.n_is;
          room = simp length-set head.room;
          placed = head.placed;
          sofar = turn l file places k cells head.sofar head.placed in_size v w its_value e;
        }

  -- all of them are read
  pub ends : n ≤ k → (Ok tt ≡ filled_by (filled_of (kinds_of l) (column_at l file places)).bad)
      × (cells ≡ (filled_of (kinds_of l) (column_at l file places)).cells)
  ends done =
      let all : size_of l ≤ k = omega (arith, done, head.n_is) in
      let f = finish l (column_at l file places) k cells head.sofar all in
      (rw (← f), ap (λ (x : Filled). x.cells) f)

-- ---- from what was filled to the reading

not_ok : (e : Refusal) (u : Unit {0}) → Err e ≡ Ok u → ⊥
not_ok e u q = let z : ◌≡◌ {A = ℕ} 0 1 = cc in omega (arith, z)

module _ (c i : ℕ) (plan file : List ℕ) (x : LocatedSaid) (h : Locates c i plan file x) (z : x.number ≡ 0) (cells : List Cell) (gs : List Triple)
    (triples : gs ≡ triples_of x.layout (column_at x.layout file x.places)) where
  abbrev filled : Filled
  filled = filled_of (kinds_of x.layout) (column_at x.layout file x.places)

  abbrev reading : ℕ → ℕ → ReadingSaid
  reading n d = record { number = n; detail = d; layout = x.layout; row = x.row; cells = cells; gradients = gs; places = x.places }

  module _ (kept : cells ≡ filled.cells) where
    filling : (b : ℕ) → b ≡ filled.bad → Filling x.layout file x.row x.places b cells gs
    filling b e =
        record {
          ordered = (h.stands z).ordered;
          inside = (h.stands z).inside;
          placed = (h.stands z).placed;
          filled = rw (e, kept);
          triples = triples;
        }

    -- the first field that has no value
    pub value_refused : (f : Refusal) → Err f ≡ filled_by filled.bad → unread (number_of f) (detail_of f) ≡ reading_of c i plan file
    value_refused f e = by_eq filled.bad 0 (λ y. absurd (not_ok f tt (e ∙ rw (eq-eqb filled.bad 0 y)))) refused
      where
        refused : (filled.bad ≡ 0 → ⊥) → unread (number_of f) (detail_of f) ≡ reading_of c i plan file
        refused n =
            let q : f ≡ BadValue filled.bad = let y : Err f ≡ Err (BadValue filled.bad) = e ∙ rw (ne_eqb filled.bad 0 n) in cc in
            rw q
            (values_refused c i plan file x h z (take x.size x.unit) refl (reading 7 filled.bad)
            (record {
              layout_is = refl;
              row_is = refl;
              places_are = refl;
              judges = bad_value x.layout (take x.size x.unit) file x.row x.places filled.bad cells gs (filling filled.bad refl) n;
            })
            (λ y. omega (arith, y)) refl)

    -- all fields have one: the verdict
    module _ {u : Unit {0}} (done : Ok u ≡ filled_by filled.bad) (broken : ℕ) (q : broken ≡ lowest (rules_of x.layout cells gs)) (v : Verdict)
        (judges : v
        ≡ verdict broken (same (take x.size x.unit) (text_at (column_at x.layout file x.places) 2))
        (same (part_of file x.row) (row_of x.layout (column_at x.layout file x.places)))) where
      none_bad : 0 ≡ filled.bad
      none_bad = by_eq filled.bad 0 sym (λ n. absurd (not_ok (BadValue filled.bad) u (sym (done ∙ rw (ne_eqb filled.bad 0 n)))))

      verdict_values : Values x.layout (take x.size x.unit) file x.row x.places (reading v.number v.detail)
      verdict_values =
          record {
            layout_is = refl;
            row_is = refl;
            places_are = refl;
            judges = by_verdict x.layout (take x.size x.unit) file x.row x.places 0 cells gs (filling 0 none_bad) refl broken q v judges;
          }

      pub refused_last : (v.number ≡ 0 → ⊥) → unread v.number v.detail ≡ reading_of c i plan file
      refused_last n = values_refused c i plan file x h z (take x.size x.unit) refl (reading v.number v.detail) verdict_values n refl

      pub all_read : v.number ≡ 0 → v.detail ≡ 0 → reading v.number v.detail ≡ reading_of c i plan file
      all_read n d = values_read c i plan file x h z (take x.size x.unit) refl (reading v.number v.detail) verdict_values n d
