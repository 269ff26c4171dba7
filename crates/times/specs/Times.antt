-- Start-up and ramp times. Document 01, "Times": the answer is that part of the message file which holds the value, or, where it is blank, that part of
-- the sheet. Order: the reader's, 16, 14. A refusal gives an empty part. The sheet is judged even where the message has the value
-- (docs/READINGS.md, "The times").
use Rattle.std.specs.Prelude.{ℕ, ◌≤◌, eqb, length, cond, List, [], Option, Some, None, Result, Ok, Err}
use Rattle.value_ask.specs.Values.{is_filled}
use Rattle.report_brief.specs.Brief.{unit_of}
use Rattle.layout.specs.FieldNumbers.{start_up_no, ramp_no}
use Rattle.layout.specs.Layouts.{is_market}
use Rattle.layout.specs.declared.Layout.TheVariants.{Market}
use Rattle.reader.specs.Messages.{places_of}
use Rattle.reader.specs.Reader.{read_of}
use Rattle.reader.specs.Refusals.{Answer}
use Rattle.record.specs.Records.{field_of}
use Rattle.times_sheet.specs.Sheet.{is_for, sheet_part}
use Rattle.times_sheet.specs.declared.Part.{Part}
use Rattle.times_sheet.specs.declared.Which.TheVariants.{StartUp, Ramp}
use Rattle.times_sheet.specs.declared.Which.{Which}
use Rattle.text.specs.Bytes.{part}
use Rattle.text.specs.Said.{Said, said}
use Rattle.text_lines.specs.Places.{span_at}
use Rattle.text_lines.specs.declared.Span.{Span}
use Rattle.refusal.specs.Numbers.{number_of, detail_of}
use Rattle.refusal.specs.declared.Refusal.{Refusal}
use Rattle.times.specs.declared.Time.{Time}
use Rattle.times.specs.declared.Time.TheVariants.{InFile, InSheet}

-- where a time stands, in the file or in the sheet, from and up to; or a refusal's number and detail
pub data TimeSaid : Type 0 where
  File : ℕ → ℕ → TimeSaid
  Sheet : ℕ → ℕ → TimeSaid
  Refused : ℕ → ℕ → TimeSaid

-- what the functions answer, said so
abbrev pub time_by : Result Time Refusal → TimeSaid
time_by (Ok (InFile p)) = File p.from p.to
time_by (Ok (InSheet p)) = Sheet p.from p.to
time_by (Err e) = Refused (number_of e) (detail_of e)

-- the field of the market layout that holds it: `Tempo di avviamento`, `Tempo di rampa`
abbrev pub field_no : Which → ℕ
field_no StartUp = start_up_no
field_no Ramp = ramp_no

-- where its value stands in a file: the reader's place of that field
abbrev pub time_place : Which → List ℕ → Span
time_place w file = span_at (places_of Market file) (field_no w)

abbrev pub in_file : Span → TimeSaid
in_file p = File p.from p.to

abbrev pub in_sheet : Part → TimeSaid
in_sheet p = Sheet p.from p.to

-- of a message that the reader answered so
unfoldable pub time_in : Which → Answer → List ℕ → List ℕ → TimeSaid
time_in w a file sheet =
    cond (eqb a.number 0)
    (cond (is_market a.content.layout)
    (cond (is_for (unit_of a.content) sheet)
    (cond (is_filled (field_of a.content.cells (field_no w))) (in_file (time_place w file)) (in_sheet (sheet_part w sheet)))
    (Refused 14 0))
    (Refused 16 0))
    (Refused a.number a.detail)

-- THE DEFINITION: where a time stands
unfoldable pub time_of : Which → ℕ → ℕ → List ℕ → List ℕ → List ℕ → TimeSaid
time_of w ca ioa plan file sheet = time_in w (read_of ca ioa plan file) file sheet

-- that part of the file or of the sheet
abbrev pub part_in : TimeSaid → List ℕ → List ℕ → List ℕ
part_in (File from to) file sheet = part from to file
part_in (Sheet from to) file sheet = part from to sheet
part_in (Refused n d) file sheet = []

-- it lies in them
abbrev pub StandsIn : List ℕ → List ℕ → TimeSaid → Type 0
StandsIn file sheet (File from to) = (from ≤ to) × (to ≤ length file)
StandsIn file sheet (Sheet from to) = (from ≤ to) × (to ≤ length sheet)
StandsIn file sheet (Refused n d) = 0 ≤ 0

-- its refusal: 0 and 0 where there is none
pub record TimeRefusal : Type 0 where
  pub number : ℕ
  pub detail : ℕ

abbrev pub time_refusal : TimeSaid → TimeRefusal
time_refusal (File from to) = record { number = 0; detail = 0 }
time_refusal (Sheet from to) = record { number = 0; detail = 0 }
time_refusal (Refused n d) = record { number = n; detail = d }

-- what an answer says: that part of the file or of the sheet, or a refusal's number and detail with an empty part
abbrev pub of_time : List ℕ → List ℕ → TimeSaid → Said
of_time file sheet (File from to) = said 0 0 (part from to file)
of_time file sheet (Sheet from to) = said 0 0 (part from to sheet)
of_time file sheet (Refused n d) = said n d []

-- what the function of that name answers, said so
abbrev pub refusal_by : Option Refusal → TimeRefusal
refusal_by (Some e) = record { number = number_of e; detail = detail_of e }
refusal_by None = record { number = 0; detail = 0 }
