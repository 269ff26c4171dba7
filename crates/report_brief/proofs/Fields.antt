-- What is told of a record, as its fields and the answers of the functions give it. Assumes nothing.
use Prim.Native.Nat.{ℕ, ◌-◌, ◌≤◌}
use Rattle.value_ask.specs.Values.{is_filled, number_in, size_in, instant_in}
use Rattle.layout.specs.FieldNumbers.{end_field}
use Rattle.report_brief.specs.Brief.{end_of, instant_text, told_of, brief_of}
use Rattle.report_brief.specs.declared.Brief.{Brief}
use Rattle.layout.specs.declared.Layout.{Layout}
use Rattle.layout.specs.declared.Layout.TheVariants.{Market, Mfrr, Revocation, Generic, Exclusion, Limitation, Secondary, VoltVar, Rejection, Reserve}
use Rattle.record.proofs.Fields.{field_at}
use Rattle.record.specs.Records.{cell, field_of}
use Rattle.record.specs.declared.Cell.{Cell}
use Rattle.record.specs.declared.Record.{Record}
use Rattle.text.specs.Digits.{whole_text}
use Rattle.value.specs.declared.Value.{Value}
use Rattle.value.specs.declared.Value.TheVariants.{Blank}
use lib.ListN.{get_or}
use mathlib.Core.Bool.{true, false}
use mathlib.Core.List.{List, []}
use mathlib.Core.Path.{◌≡◌, sym, ap, ◌∙◌}
use native.Mathlib.Omega.{arith}

-- the field with the end is one of the record's
pub end_within : (l : Layout) (k : ℕ) → k ≡ end_field l → (1 ≤ k) × (k ≤ 26)
end_within Market k e = (omega arith, omega arith)
end_within Mfrr k e = (omega arith, omega arith)
end_within Revocation k e = (omega arith, omega arith)
end_within Generic k e = (omega arith, omega arith)
end_within Exclusion k e = (omega arith, omega arith)
end_within Limitation k e = (omega arith, omega arith)
end_within Secondary k e = (omega arith, omega arith)
end_within VoltVar k e = (omega arith, omega arith)
end_within Rejection k e = (omega arith, omega arith)
end_within Reserve k e = (omega arith, omega arith)

-- what is asked of the values
pub told_is : (l : Layout) (v w : Value) (u : List ℕ) (s e : Value) (n k : ℕ) → n ≡ number_in v → k ≡ size_in w
    → record { layout = l; number = n; size = k; unit = u; start = s; end = e } ≡ told_of l v w u s e
unfolding told_of
told_is l v w u s e n k a b = rw (a, b)

-- the value in a cell
abbrev pub value_at : List Cell → ℕ → Value
value_at cells i = (get_or cells i (cell Blank)).value

-- from the cells of a record's fields, the last of which is that before the number of the end's
pub brief_is : (r : Record) (b : Brief) (k : ℕ) → k ≡ end_field r.layout
    → b ≡ told_of r.layout (value_at r.cells 0) (value_at r.cells 1) r.unit (value_at r.cells 2) (value_at r.cells (k - 1))
    → b ≡ brief_of r
unfolding brief_of end_of field_of
brief_is r b k e t =
    let cells = r.cells in
    let last = sym (field_at cells k (end_within r.layout k e).0) ∙ ap (field_of cells) e in
    t ∙ ap (told_of r.layout (value_at cells 0) (value_at cells 1) r.unit (value_at cells 2)) last

pub filled_is : (v : Value) (n : ℕ) → is_filled v ≡ true → n ≡ instant_in v → whole_text 9 n ≡ instant_text v
unfolding instant_text
filled_is v n e f = rw (e, f)

pub blank_is : (v : Value) → is_filled v ≡ false → [] ≡ instant_text v
unfolding instant_text
blank_is v e = rw e
