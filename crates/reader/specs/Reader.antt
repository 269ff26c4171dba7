-- The reader. Document 01, "Refusal numbers": 13, then 1 to 10 in number order, each with its detail; else the record.
use Rattle.std.specs.Prelude.{ℕ, ◌≤◌, eqb, ltb, length, take, Bool, true, false, not, List, [], ◌∷◌, ◌≡◌, None, Option, Some}
use Rattle.layout.specs.FieldNumbers.{unit_no}
use Rattle.layout.specs.Layouts.{labels_of}
use Rattle.layout.specs.Rows.{text_at, row_of}
use Rattle.layout.specs.declared.Layout.{Layout}
use Rattle.reader_accent.specs.Accents.{accents_of}
use Rattle.text_lines.specs.Entries.{Entry, again, missing, column}
use Rattle.text_lines.specs.Lines.{texts, seps, framed, allowed_upto}
use Rattle.value_name.specs.declared.MessageType.{MessageType}
use Rattle.plan.specs.Plans.{plan_of, sought_of}
use Rattle.plan.specs.Plans.{SoughtSaid}
use Rattle.reader.specs.Messages.{given, row_in, layout_in, entries_in, values_of, is_bad, column_record}
use Rattle.reader.specs.Refusals.{answer}
use Rattle.text.specs.Refusals.{Refusal, refusal}
use Rattle.reader.specs.Refusals.{Answer}
use Rattle.record.specs.Records.{bad_of}
use Rattle.record.specs.declared.Record.{Record}
use Rattle.record_rules.specs.Rules.{broken_in}
use Rattle.text.specs.Bytes.{same, within}

-- ---- 7 to 10, on the column of the body's values

-- 7 value, the first bad field; 8 rule, the lowest broken one; 9 the unit is not the plan's; 10 the row differs
unfoldable pub valued : Layout → List ℕ → List ℕ → List (List ℕ) → List Refusal
valued l unit row col =
    refusal 7 (bad_of (values_of l col)) (is_bad (values_of l col))
    ∷ refusal 8 (broken_in (column_record l col)) (ltb 0 (broken_in (column_record l col)))
    ∷ refusal 9 0 (not (same unit (text_at col unit_no)))
    ∷ refusal 10 0 (not (same row (row_of l col)))
    ∷ []

-- ---- 5 and 6, on the entries of the layout

abbrev pub is_there : Option ℕ → Bool
is_there None = false
is_there (Some k) = true

abbrev pub number_or : Option ℕ → ℕ
number_or None = 0
number_or (Some k) = k

-- 5 label twice, the field of the first repeat; 6 label missing, how many
unfoldable pub labelled : Layout → List ℕ → List ℕ → List Entry → List Refusal
labelled l unit row es =
    refusal 5 (number_or (again [] es)) (is_there (again [] es))
    ∷ refusal 6 (missing 1 (labels_of l) es) (ltb 0 (missing 1 (labels_of l) es))
    ∷ valued l unit row (column 1 (labels_of l) es)

-- ---- 2 to 4, on the file

-- 2 file size; 3 byte not allowed, its offset, where the type says which labels may have an accent; 4 separators, how many separator lines
unfoldable pub reading : MessageType → List ℕ → List ℕ → List Refusal
reading t unit file =
    refusal 2 0 (not (within 1 8192 (length file)))
    ∷ refusal 3 (allowed_upto (accents_of t) file) (ltb (allowed_upto (accents_of t) file) (length file))
    ∷ refusal 4 (seps (texts file)) (not (framed (texts file)))
    ∷ labelled (layout_in t (given t file)) unit (row_in file) (entries_in t file)

-- the column of the body's values
abbrev pub body_column : MessageType → List ℕ → List (List ℕ)
body_column t file = column 1 (labels_of (layout_in t (given t file))) (entries_in t file)

-- the record of a file
unfoldable pub record_in : MessageType → List ℕ → Record
record_in t file = column_record (layout_in t (given t file)) (body_column t file)

-- a file read as a message of a type for a unit
unfoldable pub message_of : MessageType → List ℕ → List ℕ → Answer
message_of t unit file = answer (reading t unit file) (record_in t file)

-- ---- files that no refusal of 2 to 4 meets

-- of an allowed size, and of allowed bytes
pub record Clean (t : MessageType) (file : List ℕ) : Type 0 where
  pub some_bytes : 1 ≤ length file
  pub not_long : length file ≤ 8192
  pub clean : allowed_upto (accents_of t) file ≡ length file

-- and with one row between two separators
pub record Sound (t : MessageType) (file : List ℕ) : Type 0 where
  pub some_bytes : 1 ≤ length file
  pub not_long : length file ≤ 8192
  pub clean : allowed_upto (accents_of t) file ≡ length file
  pub frame : framed (texts file) ≡ true

-- ---- 13 and 1, on the plan

-- the unit of an address that was found
abbrev pub unit_in : SoughtSaid → List ℕ
unit_in s = take s.size s.unit

-- 13 plan malformed, the first bad line; 1 address not in plan
unfoldable pub planned : SoughtSaid → List ℕ → List Refusal
planned s file =
    refusal 13 s.detail (eqb s.number 13)
    ∷ refusal 1 0 (eqb s.number 1)
    ∷ reading s.message (unit_in s) file

unfoldable pub answer_at : SoughtSaid → List ℕ → Answer
answer_at s file = answer (planned s file) (record_in s.message file)

-- THE DEFINITION: address, plan and file to a record or a refusal
unfoldable pub read_of : ℕ → ℕ → List ℕ → List ℕ → Answer
read_of ca ioa plan file = answer_at (sought_of ca ioa (plan_of plan)) file
