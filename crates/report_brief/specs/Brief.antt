-- What is told of a record in brief. Document 01, "The program": six lines `key=value`, each ended by LF (10).
use Rattle.std.specs.Prelude.{ℕ, take, cond, List, [], ◌++◌}
use Rattle.value_ask.specs.Values.{is_filled, number_in, size_in, instant_in}
use Rattle.report_brief.specs.declared.Brief.{Brief}
use Rattle.layout.specs.FieldNumbers.{identifier_no, unit_no, start_no, end_field}
use Rattle.layout.specs.Layouts.{type_of}
use Rattle.layout.specs.declared.Layout.{Layout}
use Rattle.value_name.specs.Types.{code_of}
use Rattle.record.specs.Records.{field_of}
use Rattle.record.specs.declared.Record.{Record}
use Rattle.text.specs.Bytes.{bytes}
use Rattle.text.specs.Digits.{whole_text}
use Rattle.text_keyline.specs.Keylines.{line_text}
use Rattle.value.specs.declared.Value.{Value}

-- ---- what is told of a record

unfoldable pub message_number : Record → ℕ
message_number r = number_in (field_of r.cells identifier_no)

-- the code of its unit
unfoldable pub unit_of : Record → List ℕ
unit_of r = take (size_in (field_of r.cells unit_no)) r.unit

-- start and end: of mFRR TINI1 and TFIN2
abbrev pub start_of : Record → Value
start_of r = field_of r.cells start_no

unfoldable pub end_of : Record → Value
end_of r = field_of r.cells (end_field r.layout)

-- a date as its instant, a blank as nothing
unfoldable pub instant_text : Value → List ℕ
instant_text v = cond (is_filled v) (whole_text 9 (instant_in v)) []

-- what is told of a message with these values of its identifier, unit, start and end, and its unit's room
unfoldable pub told_of : Layout → Value → Value → List ℕ → Value → Value → Brief
told_of l identifier named unit start end =
    record { layout = l; number = number_in identifier; size = size_in named; unit = unit; start = start; end = end }

-- what is told of a record
unfoldable pub brief_of : Record → Brief
brief_of r = told_of r.layout (field_of r.cells identifier_no) (field_of r.cells unit_no) r.unit (start_of r) (end_of r)

unfoldable pub six_of : Brief → List ℕ
six_of b =
    line_text (bytes "result=") (bytes "0")
    ++ line_text (bytes "type=") (code_of (type_of b.layout))
    ++ line_text (bytes "number=") (whole_text 9 b.number)
    ++ line_text (bytes "unit=") (take b.size b.unit)
    ++ line_text (bytes "start=") (instant_text b.start)
    ++ line_text (bytes "end=") (instant_text b.end)

-- THE DEFINITION: the six lines of a record
abbrev pub six_lines : Record → List ℕ
six_lines r = six_of (brief_of r)
