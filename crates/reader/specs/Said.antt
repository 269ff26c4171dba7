-- What the reader's functions answer, said in numbers: a refusal by its number and detail (crate refusal), and what was found by the number 0.
use Rattle.std.specs.Prelude.{ℕ, eqb, cond, Result, Ok, Err}
use Rattle.reader.specs.Readings.{ReadingSaid, unread}
use Rattle.reader.specs.Refusals.{Answer, refused, accepted}
use Rattle.reader.specs.State.{LocatedSaid, nowhere, Verdict}
use Rattle.reader.specs.declared.Located.{Located}
use Rattle.reader.specs.declared.Reading.{Reading}
use Rattle.record.specs.declared.Record.{Record}
use Rattle.refusal.specs.Numbers.{number_of, detail_of}
use Rattle.refusal.specs.declared.Refusal.TheVariants.{BadValue}
use Rattle.refusal.specs.declared.Refusal.{Refusal}

abbrev pub answer_by : Result Record Refusal → Answer
answer_by (Ok r) = accepted r
answer_by (Err e) = refused (number_of e) (detail_of e)

abbrev pub located_by : Result Located Refusal → LocatedSaid
located_by (Ok x) =
    record { number = 0; detail = 0; layout = x.layout; size = x.size; unit = x.unit; row = x.row; places = x.places }
located_by (Err e) = nowhere (number_of e) (detail_of e)

abbrev pub reading_by : Result Reading Refusal → ReadingSaid
reading_by (Ok x) =
    record { number = 0; detail = 0; layout = x.layout; row = x.row; cells = x.cells; gradients = x.gradients; places = x.places }
reading_by (Err e) = unread (number_of e) (detail_of e)

abbrev pub verdict_by : Result Unit Refusal → Verdict
verdict_by (Ok u) = record { number = 0; detail = 0 }
verdict_by (Err e) = record { number = number_of e; detail = detail_of e }

-- refusal 7 with the first field that has no value, if there is one
abbrev pub filled_by : ℕ → Result Unit Refusal
filled_by bad = cond (eqb bad 0) (Ok tt) (Err (BadValue bad))
