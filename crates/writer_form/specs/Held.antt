-- What is asked of the values that are put: each is one that its kind may hold, as in a valid record.
use Rattle.std.specs.Prelude.{◌≤◌, length, true, List, ◌∷◌, ◌≡◌}
use Rattle.value_ask.specs.Values.{is_filled}
use Rattle.layout.specs.Layouts.{kinds_of, type_of}
use Rattle.layout.specs.Rows.{halves, tail_text}
use Rattle.layout.specs.declared.Layout.{Layout}
use Rattle.value_name.specs.declared.MessageType.{MessageType}
use Rattle.record.specs.declared.Cell.{Cell}
use Rattle.value_put.specs.Rooms.{Narrow}
use Rattle.record_valid.specs.Valid.{HoldAll}
use Rattle.value.specs.Texts.{Rooms, value_text}
use Rattle.value.specs.declared.Value.{Value}
use Rattle.writer_form.specs.Written.{values_in}

-- a value that is not blank has a text
pub record Spoken (t : MessageType) (r : Rooms) (v : Value) : Type 0 where
  pub narrow : Narrow r
  pub speaks : is_filled v ≡ true → 1 ≤ length (value_text t r v)

-- the values of a layout's fields
pub record Held (l : Layout) (r : Rooms) (cells : List Cell) : Type 0 where
  pub narrow : Narrow r
  pub hold : HoldAll (type_of l) r (kinds_of l) (values_in l cells)

-- half-bands, blank or not: the two halves of their text, each after its `;`, are the text after one
pub record Halved (t : MessageType) (r : Rooms) (v : Value) : Type 0 where
  pub narrow : Narrow r
  pub halves_are : is_filled v ≡ true → tail_text (halves (value_text t r v)) ≡ 59 ∷ value_text t r v
