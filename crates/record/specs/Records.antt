-- The typed record of a message, from the column of its trimmed values. Document 01, "Values" and "Written form": unused room in a record is zero;
-- where a refusal must hand back a record, that record is all zero.
use Rattle.std.specs.Prelude.{ℕ, suc, ◌-◌, length, get_or, replicate, List, [], ◌∷◌, ◌++◌, map, None, Option, Some}
use Rattle.layout.specs.FieldNumbers.{unit_no, reason_field, note_field, gradients_field}
use Rattle.layout.specs.Rows.{text_at}
use Rattle.layout.specs.declared.Layout.{Layout}
use Rattle.layout.specs.declared.Layout.TheVariants.{Market}
use Rattle.value_list.specs.Forms.{gradients_in, kept_triples, no_triple}
use Rattle.record.specs.declared.Cell.{Cell}
use Rattle.record.specs.declared.Record.{Record}
use Rattle.text_room.specs.Rooms.{kept_in}
use Rattle.value.specs.Kinds.{value_of}
use Rattle.value.specs.Texts.{Rooms, rooms}
use Rattle.value.specs.declared.Kind.{Kind}
use Rattle.value.specs.declared.Value.{Value}
use Rattle.value.specs.declared.Value.TheVariants.{Blank}

-- ---- a column read by its kinds: all the values, or the first bad field (refusal 7)

pub data Typed : Type 0 where
  bad : ℕ → Typed
  good : List Value → Typed

unfoldable pub joined : ℕ → Option Value → Typed → Typed
joined k None t = bad k
joined k (Some v) (bad j) = bad j
joined k (Some v) (good vs) = good (v ∷ vs)

-- the fields from k on
unfoldable pub typed : ℕ → List Kind → List (List ℕ) → Typed
typed k [] ts = good []
typed k (d ∷ ds) [] = bad k
typed k (d ∷ ds) (t ∷ ts) = joined k (value_of d t) (typed (suc k) ds ts)

-- the first bad field: 0 where none is
abbrev pub bad_of : Typed → ℕ
bad_of (bad k) = k
bad_of (good vs) = 0

-- ---- the record

abbrev pub cell : Value → Cell
cell v = record { value = v }

unfoldable pub cells_of : List Value → List Cell
cells_of vs = map cell vs ++ replicate (26 - length vs) (cell Blank)

-- the value of the field k, from 1
unfoldable pub field_of : List Cell → ℕ → Value
field_of cells k = (get_or (cell Blank ∷ cells) k (cell Blank)).value

-- THE DEFINITION: the record of a layout's column, with its values
unfoldable pub record_of : Layout → List (List ℕ) → List Value → Record
record_of l col vs =
    record {
      layout = l;
      cells = cells_of vs;
      unit = kept_in 16 (text_at col unit_no);
      reason = kept_in 128 (text_at col (reason_field l));
      note = kept_in 256 (text_at col (note_field l));
      gradients = kept_triples (gradients_in (text_at col (gradients_field l)));
    }

unfoldable pub zero_record : Record
zero_record =
    record {
      layout = Market;
      cells = replicate 26 (cell Blank);
      unit = replicate 16 0;
      reason = replicate 128 0;
      note = replicate 256 0;
      gradients = replicate 16 no_triple;
    }

-- the rooms in which its texts and triples stand
abbrev pub rooms_of : Record → Rooms
rooms_of r = rooms r.unit r.reason r.note r.gradients
