-- Whether a record is valid, as a test: the crate's theorem says that it holds exactly where record_valid/specs/Valid.antt's `Valid` does.
use Rattle.std.specs.Prelude.{ℕ, eqb, ltb, length, drop, Bool, true, false, not, ◌&&◌, ◌||◌, List, [], ◌∷◌}
use Rattle.value_ask.specs.Values.{is_filled, size_in}
use Rattle.value_fits.specs.Fits.{is_no_triple, holds}
use Rattle.layout.specs.Layouts.{kinds_of, size_of, type_of}
use Rattle.layout.specs.declared.Layout.{Layout}
use Rattle.value_list.specs.declared.Triple.{Triple}
use Rattle.value_name.specs.declared.MessageType.{MessageType}
use Rattle.layout.specs.FieldNumbers.{unit_no, reason_field, note_field, gradients_field}
use Rattle.record.specs.Records.{field_of, rooms_of}
use Rattle.record.specs.declared.Cell.{Cell}
use Rattle.record.specs.declared.Record.{Record}
use Rattle.record_rules.specs.Rules.{broken_in}
use Rattle.text.specs.Bytes.{all, is}
use Rattle.value.specs.Texts.{Rooms}
use Rattle.value.specs.declared.Kind.{Kind}
use Rattle.value.specs.declared.Value.{Value}
use Rattle.writer_form.specs.Written.{values_in}

-- each value is one that its kind may hold
unfoldable pub holds_all : MessageType → Rooms → List Kind → List Value → Bool
holds_all t r [] [] = true
holds_all t r [] (v ∷ vs) = false
holds_all t r (k ∷ ks) [] = false
holds_all t r (k ∷ ks) (v ∷ vs) = holds t r k v && holds_all t r ks vs

abbrev pub is_blank_cell : Cell → Bool
is_blank_cell c = not (is_filled c.value)

-- the rooms are zero past the texts of the unit, the reason and the note
unfoldable pub are_clear : Layout → List Cell → List ℕ → List ℕ → List ℕ → Bool
are_clear l cells unit reason note =
    all (is 0) (drop (size_in (field_of cells unit_no)) unit)
    && all (is 0) (drop (size_in (field_of cells (reason_field l))) reason)
    && all (is 0) (drop (size_in (field_of cells (note_field l))) note)

-- a layout without gradients has no triples
unfoldable pub no_triples : Layout → List Triple → Bool
no_triples l values = ltb 0 (gradients_field l) || all is_no_triple values

-- the rooms have their sizes: of a record of the code this is always so
unfoldable pub is_sized : Record → Bool
is_sized r =
    eqb (length r.cells) 26 && eqb (length r.unit) 16 && eqb (length r.reason) 128 && eqb (length r.note) 256
    && eqb (length r.gradients) 16

-- THE DEFINITION: values, unused cells, unused room, and rules
unfoldable pub is_valid : Record → Bool
is_valid r =
    is_sized r
    && (holds_all (type_of r.layout) (rooms_of r) (kinds_of r.layout) (values_in r.layout r.cells)
    && all is_blank_cell (drop (size_of r.layout) r.cells)
    && are_clear r.layout r.cells r.unit r.reason r.note
    && no_triples r.layout r.gradients
    && eqb (broken_in r) 0)
