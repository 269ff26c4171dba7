-- The values of a file's places, as the record keeps them, and the first bad field.
use Rattle.std.specs.Prelude.{ℕ, eqb, cond, List, [], ◌∷◌, None, Option, Some}
use Rattle.layout.specs.Layouts.{kind_at}
use Rattle.layout.specs.Rows.{text_at}
use Rattle.layout.specs.declared.Layout.{Layout}
use Rattle.value_list.specs.Forms.{gradients_in, kept_triples}
use Rattle.value_list.specs.declared.Triple.{Triple}
use Rattle.layout.specs.FieldNumbers.{unit_no, reason_field, note_field, gradients_field}
use Rattle.record.specs.Records.{typed, bad_of, cells_of}
use Rattle.record.specs.declared.Cell.{Cell}
use Rattle.record.specs.declared.Record.{Record}
use Rattle.text_room.specs.Rooms.{kept_in}
use Rattle.value.specs.Kinds.{triples_counted, value_of}
use Rattle.value.specs.declared.Kind.{Kind}
use Rattle.value.specs.declared.Value.{Value}

-- the values of the fields before the first bad one
abbrev pub ahead : Option Value → List Value → List Value
ahead None vs = []
ahead (Some v) vs = v ∷ vs

unfoldable pub good_front : List Kind → List (List ℕ) → List Value
good_front [] ts = []
good_front (d ∷ ds) [] = []
good_front (d ∷ ds) (t ∷ ts) = ahead (value_of d t) (good_front ds ts)

-- the first bad field, 0 where there is none, and the cells as they were filled up to it
pub record Filled : Type 0 where
  pub bad : ℕ
  pub cells : List Cell

unfoldable pub filled_of : List Kind → List (List ℕ) → Filled
filled_of ds col = record { bad = bad_of (typed 1 ds col); cells = cells_of (good_front ds col) }

-- the value of the field k from its text, with that of the gradients from what was read of them: how many they are, if they are good
unfoldable pub value_with : Layout → ℕ → Option ℕ → List ℕ → Option Value
value_with l k count s = cond (eqb k (gradients_field l)) (triples_counted count) (value_of (kind_at l k) s)

-- the triples of a column
unfoldable pub triples_of : Layout → List (List ℕ) → List Triple
triples_of l col = kept_triples (gradients_in (text_at col (gradients_field l)))

-- the record with these cells and triples, its other rooms from the column
unfoldable pub record_with : Layout → List (List ℕ) → List Cell → List Triple → Record
record_with l col cells triples =
    record {
      layout = l;
      cells = cells;
      unit = kept_in 16 (text_at col unit_no);
      reason = kept_in 128 (text_at col (reason_field l));
      note = kept_in 256 (text_at col (note_field l));
      gradients = triples;
    }
