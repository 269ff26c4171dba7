-- Files by either spelling of a label, computed: what the definitions answer. Document 02, A1 (docs/READINGS.md). Assumes nothing.
use Prim.Native.Nat.{ℕ}
use Rattle.layout.specs.Fields.{qr, vq}
use Rattle.layout.specs.Layouts.{fields_of, labels_of, kinds_of}
use Rattle.layout.specs.Rows.{row_fields, pieces_of, tail_text, row_text, row_of}
use Rattle.plan.specs.Plans.{plan_from, plan_of, look_up, sought_of}
use Rattle.plan_row.specs.Rows.{type_from, type_at, plan_row_of as row_at}
use Rattle.reader.specs.Messages.{given, row_in, layout_in, entries_in, values_of, column_record}
use Rattle.reader.specs.Reader.{valued, labelled, reading, record_in, planned, answer_at, read_of}
use Rattle.reader.specs.Refusals.{answer}
use Rattle.reader.specs.Refusals.{Answer}
use Rattle.reader_accent.specs.Accents.{accents_of}
use Rattle.record.specs.Records.{joined, typed, cells_of, field_of, record_of}
use Rattle.record_rules.specs.Rules.{in_order, rules_of, lowest, broken_in}
use Rattle.record_voltvar.specs.Table.{table, form_of, volt_var_line, meets, in_table}
use Rattle.text.specs.Bytes.{bytes, same, starts, upto, past, any, all, skip, skip_end, trim, tidy}
use Rattle.text.specs.Digits.{number_from, digits_of}
use Rattle.text.specs.Lists.{count, sift}
use Rattle.text.specs.Puts.{room_of}
use Rattle.text_keyline.specs.Keylines.{line_of, whole_in, number_at, unit_at}
use Rattle.text_lines.specs.Entries.{place_of, entry_of, entries, stands, again, missing, value_at, column}
use Rattle.text_lines.specs.Lines.{allowed, allowed_from, allowed_upto, lines, text_of, texts, is_sep, seps, mark, marked, if_inside, if_outside, inside, outside}
use Rattle.text_lines.specs.Lines.{framed, param_of, param_in, params}
use Rattle.text_lines.specs.Spellings.{label_room, opens, is_accented, respell}
use Rattle.text_room.specs.Rooms.{kept_in}
use Rattle.value.specs.Kinds.{shape_of, value_of}
use Rattle.value_date.specs.Date.{fits_byte, shaped, date_parts as date_fields, leap, days_in, is_real, date_of, days_of, passed, clock_of, instant_of}
use Rattle.value_name.specs.Names.{exactly, identifier_of, is_unit, sequence_of}
use Rattle.value_number.specs.Number.{scaled, fraction_of, joined_digits, unsigned_of, plus, minus, number_of}
use Rattle.value_word.specs.Words.{command_words, mode_words, setting_words, words, word, word_from, volt_in}
use mathlib.Core.List.{List, [], ◌∷◌, ◌++◌, map}
use mathlib.Core.Path.{◌≡◌, refl}

-- ---- the parts

abbrev head : List ℕ
head = bytes "Identificatore messaggio=VQ-0000000010\nNome UPA/UCA=U\nData Ora Inizio=15-01-2025 14:00:00 S\nData Ora Fine=\nStato Sart/Report=E\n"

abbrev tail : List ℕ → List ℕ
tail setting =
    bytes "Regolazione=TENSIONE (MT)\nImpostazione Sart/Report=\nImpostazione RAT="
    ++ setting
    ++ bytes "\nVariazione=-1.5\nPotenza reattiva=\nNote=\nData Creazione Msg=15-01-2025 13:55:00 S\n"

abbrev row : List ℕ → List ℕ
row setting = bytes "VQ-0000000010;U;15-01-2025 14:00:00 S;;E;RAT;TENSIONE (MT);;" ++ setting ++ bytes ";-1.5;;;15-01-2025 13:55:00 S\n"

-- lines, and a row between its separators
abbrev of : List ℕ → List ℕ → List ℕ
of ls r = ls ++ bytes "+++++\n" ++ r ++ bytes "+++++\n"

abbrev plain : List ℕ
plain = bytes "Modalita funzionamento=RAT\n"

abbrev accented : List ℕ
accented = bytes "Modalità funzionamento=RAT\n"

-- ---- the table: a file of VQ or of QR, and the number and detail of its answer

pub record Case : Type 0 where
  pub plan : List ℕ
  pub file : List ℕ
  pub number : ℕ
  pub detail : ℕ

abbrev of_vq : List ℕ → ℕ → ℕ → Case
of_vq f n d = record { plan = bytes "ca=7\nioa=303\nunit=U\ntype=VQ\n"; file = f; number = n; detail = d }

abbrev of_qr : List ℕ → ℕ → ℕ → Case
of_qr f n d = record { plan = bytes "ca=7\nioa=303\nunit=U\ntype=QR\n"; file = f; number = n; detail = d }

unfoldable pub cases : List Case
cases =
    -- both spellings are good; the settings too, each against its own row
    of_vq (of (head ++ plain ++ tail (bytes "V MAX")) (row (bytes "V MAX"))) 0 0
    ∷ of_vq (of (head ++ accented ++ tail (bytes "V MAX")) (row (bytes "V MAX"))) 0 0
    ∷ of_vq (of (head ++ accented ++ tail (bytes "VMAX")) (row (bytes "VMAX"))) 0 0
    ∷ of_vq (of (head ++ plain ++ tail (bytes "VMAX")) (row (bytes "V MAX"))) 10 0
    ∷ of_vq (of (head ++ plain ++ tail (bytes "V MIN")) (row (bytes "VMIN"))) 10 0
    -- a row that opens with such a label is a row, and another
    ∷ of_vq (of (head ++ plain ++ tail (bytes "V MAX")) (bytes "Modalità funzionamento=1\n")) 10 0
    -- both in one file are 5, whichever came first; and the accented one twice
    ∷ of_vq (of (head ++ plain ++ accented) (bytes "\n")) 5 6
    ∷ of_vq (of (head ++ accented ++ plain) (bytes "\n")) 5 6
    ∷ of_qr (of (bytes "Quantità Riservata=1\nQuantità Riservata (MW)=2\nQuantita Riservata (MW)=3\nQuantita Riservata=4\n") (bytes "\n")) 5 6
    ∷ of_qr (of (bytes "Quantità Riservata=1\nQuantità Riservata=2\n") (bytes "\n")) 5 7
    -- E0 in a value, behind the '=', in a line without '=', in another type's label, twice, in another label
    ∷ of_vq (bytes "Note=à\n") 3 5
    ∷ of_vq (bytes "Modalità funzionamento=à\n") 3 23
    ∷ of_vq (bytes "Modalità funzionamento\n") 3 7
    ∷ of_vq (bytes "Quantità Riservata=1\n") 3 7
    ∷ of_qr (bytes "Modalità funzionamento=1\n") 3 7
    ∷ of_vq (bytes "Modalitàà funzionamento=1\n") 3 7
    ∷ of_vq (bytes "Modalità di funzionamento=1\n") 3 7
    -- and with blanks about it, as the last line
    ∷ of_vq (bytes "  Modalità funzionamento  =") 4 0
    ∷ []

-- number and detail of what is answered
abbrev told : Answer → ℕ × ℕ
told a = (a.number, a.detail)

pub spelled : map (λ (c : Case). told (read_of 7 303 c.plan c.file)) cases ≡ map (λ (c : Case). (c.number, c.detail)) cases
unfolding fits_byte shaped date_fields leap days_in is_real date_of days_of passed clock_of instant_of vq qr fields_of labels_of kinds_of row_fields pieces_of
    tail_text row_text row_of place_of entry_of entries stands again missing value_at column allowed allowed_from allowed_upto label_room opens is_accented
    respell param_in accents_of lines text_of texts is_sep seps mark marked if_inside if_outside inside outside framed param_of params exactly identifier_of
    is_unit sequence_of line_of whole_in number_at unit_at type_from type_at row_at plan_from plan_of look_up sought_of given row_in layout_in entries_in values_of
    column_record valued labelled reading record_in planned answer_at read_of answer joined typed cells_of field_of record_of kept_in in_order rules_of lowest
    broken_in same starts upto past any all skip skip_end trim tidy number_from digits_of count sift room_of shape_of value_of cases scaled fraction_of
    joined_digits unsigned_of plus minus number_of command_words mode_words setting_words words word word_from volt_in table form_of volt_var_line meets in_table
spelled = refl
