-- A valid record. Document 01, "Written form": a record is valid when its fields obey the above and its texts are trimmed; unused room is zero.
use Rattle.std.specs.Prelude.{ℕ, replicate, List, [], ◌∷◌, map, ◌≡◌}
use Rattle.layout.specs.Layouts.{kinds_of, type_of}
use Rattle.layout.specs.Rows.{text_at}
use Rattle.value_list.specs.Forms.{no_triple}
use Rattle.value_name.specs.declared.MessageType.{MessageType}
use Rattle.layout.specs.FieldNumbers.{reason_field, note_field, gradients_field}
use Rattle.record.specs.Records.{cells_of, rooms_of}
use Rattle.record.specs.declared.Record.{Record}
use Rattle.record_rules.specs.Rules.{broken_in}
use Rattle.text.specs.Puts.{room_of}
use Rattle.value.specs.Texts.{Rooms, value_text}
use Rattle.value.specs.Valid.{Holds}
use Rattle.value.specs.declared.Kind.{Kind}
use Rattle.value.specs.declared.Value.{Value}

-- each value is one that its kind may hold
pub data HoldAll (t : MessageType) (r : Rooms) : List Kind → List Value → Type 0 where
  end : HoldAll t r [] []
  next : {k : Kind} {ks : List Kind} {v : Value} {vs : List Value} → Holds t r k v → HoldAll t r ks vs → HoldAll t r (k ∷ ks) (v ∷ vs)

-- the texts of a record's values
unfoldable pub texts_of : Record → List Value → List (List ℕ)
texts_of r vs = map (value_text (type_of r.layout) (rooms_of r)) vs

-- a record with these values: they fit their kinds, the unused cells are blank, the unused room is zero, and no rule is broken
pub record ValidAs (r : Record) (vs : List Value) : Type 0 where
  pub hold : HoldAll (type_of r.layout) (rooms_of r) (kinds_of r.layout) vs
  pub cells_are : r.cells ≡ cells_of vs
  pub unit_is : r.unit ≡ room_of 16 (text_at (texts_of r vs) 2)
  pub reason_is : r.reason ≡ room_of 128 (text_at (texts_of r vs) (reason_field r.layout))
  pub note_is : r.note ≡ room_of 256 (text_at (texts_of r vs) (note_field r.layout))
  pub no_gradients : gradients_field r.layout ≡ 0 → r.gradients ≡ replicate 16 no_triple
  pub unbroken : broken_in r ≡ 0

-- THE DEFINITION: a valid record
pub record Valid (r : Record) : Type 0 where
  pub values : List Value
  pub valid : ValidAs r values
