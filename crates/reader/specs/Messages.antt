-- What a file says as a message of a type: its parameter lines, its row, its layout and its column of values. Document 01, "Lines of a message".
use Rattle.std.specs.Prelude.{ℕ, get_or, Bool, true, false, cond, List, []}
use Rattle.layout.specs.Layouts.{labels_of, kinds_of, type_of}
use Rattle.layout.specs.declared.Layout.{Layout}
use Rattle.layout.specs.declared.Layout.TheVariants.{Market, Mfrr, Revocation, Generic, Exclusion, Limitation, Secondary, VoltVar, Rejection, Reserve}
use Rattle.reader_accent.specs.Accents.{accents_of}
use Rattle.text_lines.specs.Entries.{Entry, entries}
use Rattle.text_lines.specs.Lines.{Param, params, outside, inside, texts}
use Rattle.text_lines.specs.Spots.{places_in}
use Rattle.text_lines.specs.declared.Span.{Span}
use Rattle.value_name.specs.declared.MessageType.{MessageType}
use Rattle.value_name.specs.declared.MessageType.TheVariants.{Cb, Rc, Mg, Eb, Lb, Sr, Vq, Ri, Qr}
use Rattle.record.specs.Records.{Typed, typed, record_of}
use Rattle.record.specs.Records.Typed.{bad, good}
use Rattle.record.specs.declared.Record.{Record}
use Rattle.text.specs.Bytes.{bytes, same, any}
use Rattle.value.specs.declared.Value.{Value}

-- ---- lines

-- the parameters of a file of a type, label and value, in the order of its lines; a label with an accent by its plain spelling
unfoldable pub given : MessageType → List ℕ → List Param
given t file = params (accents_of t) (outside (texts file))

-- the line between the separators
unfoldable pub row_in : List ℕ → List ℕ
row_in file = get_or (inside (texts file)) 0 []

-- ---- layout: a CB file is the mFRR layout when it has a parameter line `Tipo Comando`, else the market layout

abbrev pub is_kind_of_command : Param → Bool
is_kind_of_command p = same (bytes "Tipo Comando") p.label

unfoldable pub layout_in : MessageType → List Param → Layout
layout_in Cb ps = cond (any is_kind_of_command ps) Mfrr Market
layout_in Rc ps = Revocation
layout_in Mg ps = Generic
layout_in Eb ps = Exclusion
layout_in Lb ps = Limitation
layout_in Sr ps = Secondary
layout_in Vq ps = VoltVar
layout_in Ri ps = Rejection
layout_in Qr ps = Reserve

-- ---- entries of the layout

unfoldable pub entries_in : MessageType → List ℕ → List Entry
entries_in t file = entries (labels_of (layout_in t (given t file))) (given t file)

-- where the values of a layout's fields stand
abbrev pub places_of : Layout → List ℕ → List Span
places_of l file = places_in (accents_of (type_of l)) (labels_of l) file

-- ---- the column read by its kinds, and the record of it

unfoldable pub values_of : Layout → List (List ℕ) → Typed
values_of l col = typed 1 (kinds_of l) col

abbrev pub is_bad : Typed → Bool
is_bad (bad k) = true
is_bad (good vs) = false

abbrev pub good_of : Typed → List Value
good_of (bad k) = []
good_of (good vs) = vs

unfoldable pub column_record : Layout → List (List ℕ) → Record
column_record l col = record_of l col (good_of (values_of l col))
