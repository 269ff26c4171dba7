-- Document 01, "The program": its message at its plan gives its record, and wrong inputs, at least one for each of the reader's refusals, are refused
-- with their number and detail. By computation.
use Prim.Native.Nat.{ℕ}
use Rattle.value_date.specs.Date.{fits_byte, shaped, date_parts as date_fields, leap, days_in, is_real, date_of, days_of, passed, clock_of, instant_of}
use Rattle.value_date.specs.declared.Date.{Date}
use Rattle.layout.specs.Fields.{rc}
use Rattle.layout.specs.Layouts.{fields_of, labels_of, kinds_of}
use Rattle.layout.specs.Rows.{row_fields, pieces_of, tail_text, row_text, row_of}
use Rattle.layout.specs.declared.Layout.TheVariants.{Revocation}
use Rattle.text_lines.specs.Entries.{place_of, entry_of, entries, stands, again, missing, value_at, column}
use Rattle.reader_accent.specs.Accents.{accents_of}
use Rattle.text_lines.specs.Spellings.{label_room, opens, is_accented, respell}
use Rattle.text_lines.specs.Lines.{allowed, allowed_from, allowed_upto, lines, text_of, texts, is_sep, seps, mark, marked, if_inside, if_outside, inside, outside}
use Rattle.text_lines.specs.Lines.{framed, param_of, param_in, params}
use Rattle.value_name.specs.Names.{exactly, identifier_of, is_unit, sequence_of}
use Rattle.text_keyline.specs.Keylines.{line_of, whole_in, number_at, unit_at}
use Rattle.plan_row.specs.Rows.{type_from, type_at, plan_row_of as row_at}
use Rattle.plan.specs.Plans.{plan_from, plan_of, look_up, sought_of}
use Rattle.reader.specs.Messages.{given, row_in, layout_in, entries_in, values_of, column_record}
use Rattle.reader.specs.Reader.{valued, labelled, reading, record_in, planned, answer_at, read_of}
use Rattle.reader.specs.Refusals.{refused, accepted, answer}
use Rattle.reader.specs.Refusals.{Answer}
use Rattle.record.specs.Records.{joined, typed, cells_of, field_of, record_of}
use Rattle.text_room.specs.Rooms.{kept_in}
use Rattle.record_rules.specs.Rules.{in_order, rules_of, lowest, broken_in}
use Rattle.text.specs.Bytes.{bytes, same, starts, upto, past, any, all, skip, skip_end, trim}
use Rattle.text.specs.Digits.{number_from, digits_of}
use Rattle.text.specs.Lists.{count, sift}
use Rattle.text.specs.Puts.{room_of}
use Rattle.value.specs.Kinds.{shape_of, value_of}
use Rattle.value.specs.declared.Value.TheVariants.{Id, Unit, When, Count}
use mathlib.Core.Bool.{false}
use mathlib.Core.List.{List, [], ◌∷◌, ◌++◌, map}
use mathlib.Core.Path.{◌≡◌, refl}

-- ---- the plan and the message

abbrev pub plan : List ℕ
plan = bytes "ca=7\nioa=300\nunit=UP_PROVA_1\ntype=RC\n"

abbrev banner : List ℕ
banner = bytes "*****\n***** MESSAGGIO DI REVOCA COMANDO *****\n*****\n\n"

abbrev identifier : List ℕ
identifier = bytes "Identificatore messaggio            = RC-0000000042\n"

abbrev unit : List ℕ
unit = bytes "Nome UPA/UCA                        = UP_PROVA_1\n"

abbrev start : List ℕ
start = bytes "Data Ora Inizio Revoca Comando      = 15-01-2025 10:00:00 S\n"

abbrev end : List ℕ
end = bytes "Data Ora Fine Revoca Comando        = 15-01-2025 10:30:00 S\n"

abbrev sequence : List ℕ
sequence = bytes "Sequenza Comando                    = 17\n"

abbrev plus : List ℕ
plus = bytes "+++++\n"

abbrev row : List ℕ
row = bytes "RC-0000000042;UP_PROVA_1;15-01-2025 10:00:00 S;15-01-2025 10:30:00 S;17\n"

-- a message of these parameter lines and this row
abbrev of : List ℕ → List ℕ → List ℕ
of lines summary = banner ++ lines ++ plus ++ summary ++ plus

abbrev pub message : List ℕ
message = of (identifier ++ unit ++ start ++ end ++ sequence) row

-- ---- its record: the values that the program prints, `number=42` to `end=790248600`

abbrev half : ℕ → Date
half m = record { year = 2025; month = 1; day = 15; hour = 10; minute = m; second = 0; legal = false }

instants : map instant_of (half 0 ∷ half 30 ∷ []) ≡ 790246800 ∷ 790248600 ∷ []
unfolding leap days_in days_of passed clock_of instant_of
instants = refl

abbrev pub read : Answer
read =
    accepted
    (record_of Revocation (bytes "RC-0000000042" ∷ bytes "UP_PROVA_1" ∷ bytes "15-01-2025 10:00:00 S" ∷ bytes "15-01-2025 10:30:00 S" ∷ bytes "17" ∷ [])
    (Id 42 ∷ Unit 10 ∷ When (half 0) ∷ When (half 30) ∷ Count 17 ∷ []))

-- ---- the table

-- an address, a plan, a file, and what is answered
pub record Case : Type 0 where
  pub ca : ℕ
  pub ioa : ℕ
  pub plan : List ℕ
  pub file : List ℕ
  pub answer : Answer

abbrev case : ℕ → ℕ → List ℕ → List ℕ → Answer → Case
case c i p f a = record { ca = c; ioa = i; plan = p; file = f; answer = a }

-- at the address and the plan of the document
abbrev filed : List ℕ → Answer → Case
filed f a = case 7 300 plan f a

unfoldable pub cases : List Case
cases =
    filed message read
    -- the lines in another order, the row above them, CR LF, blanks, a foreign label, and no last LF
    ∷ filed (plus ++ row ++ bytes " ++++++++ \r\n" ++ sequence ++ end ++ bytes "foreign=3\n  Nome UPA/UCA=  UP_PROVA_1 \r\n"
    ++ start ++ bytes "Identificatore messaggio =RC-0000000042") read
    -- 13: no row; another type; the address twice, bad at the later `ioa` line
    ∷ case 7 300 [] message (refused 13 0)
    ∷ case 7 300 (bytes "ca=7\nioa=300\nunit=UP_PROVA_1\ntype=XX\n") message (refused 13 4)
    ∷ case 7 300 (plan ++ plan) message (refused 13 6)
    -- 1
    ∷ case 7 301 plan message (refused 1 0)
    -- 2
    ∷ filed [] (refused 2 0)
    -- 3: a tab; CR without LF
    ∷ filed (of (identifier ++ unit ++ start ++ end ++ bytes "Sequenza Comando                    =\t17\n") row) (refused 3 311)
    ∷ filed (message ++ bytes "\r") (refused 3 399)
    -- 4: four `+`; three separators; two rows
    ∷ filed (banner ++ identifier ++ unit ++ start ++ end ++ sequence ++ bytes "++++\n" ++ row ++ bytes "++++\n") (refused 4 0)
    ∷ filed (message ++ plus) (refused 4 3)
    ∷ filed (of (identifier ++ unit ++ start ++ end ++ sequence) (row ++ row)) (refused 4 2)
    -- 5: the end is the first to stand again
    ∷ filed (of (identifier ++ unit ++ start ++ end ++ sequence ++ end ++ unit) row) (refused 5 4)
    -- 6: unit and sequence
    ∷ filed (of (identifier ++ start ++ end) row) (refused 6 2)
    -- 7: no such day; a leading zero
    ∷ filed (of (identifier ++ unit ++ bytes "Data Ora Inizio Revoca Comando      = 29-02-2023 10:00:00 S\n" ++ end ++ sequence) row) (refused 7 3)
    ∷ filed (of (identifier ++ unit ++ start ++ end ++ bytes "Sequenza Comando                    = 017\n") row) (refused 7 5)
    -- 8: the end is the start
    ∷ filed (of (identifier ++ unit ++ start ++ bytes "Data Ora Fine Revoca Comando        = 15-01-2025 10:00:00 S\n" ++ sequence) row) (refused 8 1)
    -- 9: another unit
    ∷ filed (of (identifier ++ bytes "Nome UPA/UCA                        = UP_PROVA_2\n" ++ start ++ end ++ sequence) row) (refused 9 0)
    -- 10: 18 for 17
    ∷ filed (of (identifier ++ unit ++ start ++ end ++ sequence) (bytes "RC-0000000042;UP_PROVA_1;15-01-2025 10:00:00 S;15-01-2025 10:30:00 S;18\n"))
    (refused 10 0)
    ∷ []

-- every input of the table is answered as it says
pub right : map (λ (c : Case). read_of c.ca c.ioa c.plan c.file) cases ≡ map (λ (c : Case). c.answer) cases
unfolding fits_byte shaped date_fields leap days_in is_real date_of days_of passed clock_of instant_of rc fields_of labels_of kinds_of row_fields pieces_of
    tail_text row_text row_of place_of entry_of entries stands again missing value_at column allowed allowed_from allowed_upto
    label_room opens is_accented respell param_in accents_of lines text_of texts is_sep seps mark marked
    if_inside if_outside inside outside framed param_of params exactly identifier_of is_unit sequence_of line_of whole_in number_at unit_at type_from type_at
    row_at plan_from plan_of look_up sought_of given row_in layout_in entries_in values_of column_record valued labelled reading record_in planned answer_at
    read_of answer joined typed cells_of field_of record_of kept_in in_order rules_of lowest broken_in same starts upto past any all skip skip_end trim
    number_from digits_of count sift room_of shape_of value_of cases
right = refl
