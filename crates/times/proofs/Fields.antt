-- The value of a time's field stands at the reader's place of it. Assumes nothing.
use Prim.Native.Nat.{ℕ, ◌≤◌}
use Rattle.layout.specs.Fields.{command, technical, market}
use Rattle.layout.specs.Layouts.{fields_of, labels_of}
use Rattle.layout.specs.declared.Layout.TheVariants.{Market}
use Rattle.reader.proofs.Readings.{layout_fields}
use Rattle.reader.specs.Messages.{given}
use Rattle.text_lines.specs.Entries.{entries, value_at}
use Rattle.text_lines.specs.Places.{HoldsText}
use Rattle.value_name.specs.declared.MessageType.TheVariants.{Cb}
use Rattle.times_sheet.specs.declared.Which.TheVariants.{StartUp, Ramp}
use Rattle.times_sheet.specs.declared.Which.{Which}
use Rattle.times.specs.Times.{field_no, time_place}
use borrow.Author.Tests.{leb-true}
use lib.ListN.{length}
use mathlib.Core.List.{List}
use mathlib.Core.Path.{◌≡◌, refl}
use native.Mathlib.Omega.{arith}

-- it is one of the record's fields, and of the layout's
pub field_within : (w : Which) (k : ℕ) → k ≡ field_no w → (1 ≤ k) × (k ≤ 26)
field_within StartUp k e = (omega arith, omega arith)
field_within Ramp k e = (omega arith, omega arith)

in_labels : (w : Which) → field_no w ≤ length (labels_of Market)
unfolding labels_of fields_of market command technical
in_labels StartUp = leb-true _ _ refl
in_labels Ramp = leb-true _ _ refl

pub time_holds : (w : Which) (file : List ℕ) → HoldsText file (time_place w file) (value_at (field_no w) (entries (labels_of Market) (given Cb file)))
time_holds w file = (layout_fields Market file).value (field_no w) (field_within w (field_no w) refl).0 (in_labels w)
