-- The unit of a market record is the text that stands at its place in the file. Assumes nothing.
use Rattle.std.specs.Prelude.{None, Some}
use Prim.Native.Nat.{ℕ, zero, suc, ◌-◌}
use Rattle.value_ask.specs.Values.{size_in}
use Rattle.report_brief.specs.Brief.{unit_of}
use Rattle.reader_fill.proofs.Stored.{kept_in_room}
use Rattle.reader_fill.specs.Filled.{record_with}
use Rattle.layout.specs.Fields.{command, technical, market}
use Rattle.layout.specs.Layouts.{fields_of, kinds_of, kind_at}
use Rattle.layout.specs.Rows.{text_at}
use Rattle.layout.specs.declared.Layout.TheVariants.{Market}
use Rattle.layout.specs.declared.Layout.{Layout}
use Rattle.value_list.specs.declared.Triple.{Triple}
use Rattle.value_name.proofs.RoundTrip.{unit_size}
use Rattle.value_name.specs.Names.{is_unit_byte, is_unit}
use Rattle.reader.specs.Messages.{values_of, is_bad, column_record}
use Rattle.record.specs.Records.{field_of, record_of}
use Rattle.record.specs.declared.Cell.{Cell}
use Rattle.record.specs.declared.Record.{Record}
use Rattle.text_room.specs.Rooms.{kept_in}
use Rattle.text.proofs.Cuts.{upto_seam, upto_all, all_none}
use Rattle.text.proofs.Tests.{by_test, and_parts}
use Rattle.text.specs.Bytes.{all, any, is, upto, within}
use Rattle.text.specs.Puts.{room_of}
use Rattle.times.proofs.Taken.{field_read}
use Rattle.value.specs.Kinds.{shape_of, value_of}
use Rattle.value.specs.declared.Value.TheVariants.{Unit as UnitOf}
use Rattle.value.specs.declared.Value.{Value}
use borrow.Author.Tests.{le-leb, ltb-true, ne_eqb}
use lib.ListN.{length, replicate, take}
use mathlib.Core.Bool.{true, false, false≢true}
use mathlib.Core.List.{List, ◌++◌, append-nil}
use mathlib.Core.Path.{◌≡◌, refl, sym, ap, ◌∙◌}
use native.Mathlib.Omega.{arith}

-- ---- a unit in its room is what stands before the first zero

dark : (x : ℕ) → is_unit_byte x ≡ true → is 0 x ≡ false
dark x e = ne_eqb x 0 (λ z. false≢true (rw z at e))

zeros_cut : (u : List ℕ) (n : ℕ) → any (is 0) u ≡ false → upto (is 0) (u ++ replicate n 0) ≡ u
zeros_cut u zero h = ap (upto (is 0)) (append-nil u) ∙ upto_all (is 0) u h
zeros_cut u (suc n) h = upto_seam (is 0) u 0 (replicate n 0) h refl

unit_cut : (u : List ℕ) → is_unit u ≡ true → upto (is 0) (kept_in 16 u) ≡ u
unfolding kept_in room_of is_unit
unit_cut u e =
    rw (le-leb (length u) 16 (unit_size u e).1)
    (zeros_cut u (16 - length u) (all_none (is 0) is_unit_byte dark u (and_parts (within 1 16 (length u)) (all is_unit_byte u) e).1))

-- ---- the field of the unit

unit_value : (s : List ℕ) (v : Value) → value_of (kind_at Market 2) s ≡ Some v → (is_unit s ≡ true) × (v ≡ UnitOf (length s))
unfolding value_of shape_of kind_at kinds_of fields_of market command technical
unit_value s v e =
    by_test (is_unit s) (λ t. let z : Some (UnitOf (length s)) ≡ Some v = rw t at e in (t, cc))
    (λ t. let z : None ≡ Some v = rw t at e in let y : ◌≡◌ {A = ℕ} 0 1 = cc in absurd (omega arith))

unit_read : (l : Layout) (col : List (List ℕ)) → l ≡ Market → is_bad (values_of l col) ≡ false
    → (is_unit (text_at col 2) ≡ true) × (field_of (column_record l col).cells 2 ≡ UnitOf (length (text_at col 2)))
unfolding fields_of market command technical
unit_read l col m e = rw m (unit_value (text_at col 2) (field_of (column_record Market col).cells 2) (field_read Market col (rw m at e) 1 (ltb-true _ _ refl)))

-- a record with the texts of one column that is the record of another
pub unit_is : (l k : Layout) (col others : List (List ℕ)) (cells : List Cell) (gs : List Triple) → record_with l col cells gs ≡ column_record k others
    → l ≡ Market
    → is_bad (values_of l col) ≡ false → is_bad (values_of k others) ≡ false → unit_of (record_with l col cells gs) ≡ text_at col 2
unfolding unit_of record_with column_record record_of
unit_is l k col others cells gs e m good goods =
    let u = text_at col 2 in
    let v = text_at others 2 in
    let p = unit_read l col m good in
    let q = unit_read k others (sym (ap (λ (r : Record). r.layout) e) ∙ m) goods in
    let room : kept_in 16 u ≡ kept_in 16 v = ap (λ (r : Record). r.unit) e in
    let same : u ≡ v = sym (unit_cut u p.0) ∙ ap (upto (is 0)) room ∙ unit_cut v q.0 in
    let size : field_of cells 2 ≡ UnitOf (length u) = ap (λ (r : Record). field_of r.cells 2) e ∙ q.1 ∙ ap (λ (x : List ℕ). UnitOf (length x)) (sym same) in
    ap (λ (x : Value). take (size_in x) (kept_in 16 u)) size ∙ (kept_in_room 16 u).front (unit_size u p.0).1
