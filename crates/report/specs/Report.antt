-- What is printed of a reading. Document 01, "The program": six lines of a record, two of a refusal.
use Rattle.std.specs.Prelude.{ℕ, eqb, cond, List, ◌++◌, Result, Ok, Err}
use Rattle.report_brief.specs.Brief.{six_lines}
use Rattle.text_keyline.specs.Keylines.{line_text}
use Rattle.reader.specs.Refusals.{Answer}
use Rattle.record.specs.declared.Record.{Record}
use Rattle.refusal.specs.Numbers.{number_of, detail_of}
use Rattle.refusal.specs.declared.Refusal.{Refusal}
use Rattle.text.specs.Bytes.{bytes}
use Rattle.text.specs.Digits.{whole_text}

unfoldable pub two_lines : ℕ → ℕ → List ℕ
two_lines n d = line_text (bytes "result=") (whole_text 9 n) ++ line_text (bytes "detail=") (whole_text 9 d)

-- THE DEFINITION: what is printed of an answer
unfoldable pub report_of : Answer → List ℕ
report_of a = cond (eqb a.number 0) (six_lines a.content) (two_lines a.number a.detail)

-- the same of a record, or of a number and a detail, whatever they are
abbrev pub told_lines : Result Record (ℕ × ℕ) → List ℕ
told_lines (Ok r) = six_lines r
told_lines (Err e) = two_lines e.0 e.1

-- an answer told so: a refusal by its number and its detail
abbrev pub told_as : Result Record Refusal → Result Record (ℕ × ℕ)
told_as (Ok r) = Ok r
told_as (Err e) = Err (number_of e, detail_of e)
