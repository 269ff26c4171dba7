-- What is printed of an answer, by its number. Assumes nothing.
use Rattle.std.specs.Prelude.{ℕ, Result, Ok, Err, cond, eqb}
use Rattle.reader.specs.Refusals.{Answer}
use Rattle.reader.specs.Said.{answer_by}
use Rattle.record.specs.declared.Record.{Record}
use Rattle.refusal.proofs.Some.{not_none}
use Rattle.refusal.specs.declared.Refusal.{Refusal}
use Rattle.report.specs.Report.{two_lines, report_of, told_as, told_lines}
use Rattle.report_brief.specs.Brief.{six_lines}
use borrow.Author.Tests.{eq-eqb, ne_eqb}
use mathlib.Core.Bool.{Bool, true, false}
use mathlib.Core.Path.{◌≡◌, refl}

pub record_is : (a : Answer) → a.number ≡ 0 → six_lines a.content ≡ report_of a
unfolding report_of
record_is a e = rw (eq-eqb a.number 0 e)

pub refusal_is : (a : Answer) → (a.number ≡ 0 → ⊥) → two_lines a.number a.detail ≡ report_of a
unfolding report_of
refusal_is a e = rw (ne_eqb a.number 0 e)

-- an answer of any number and detail, and of any record: 0 is told of a record
abbrev pub any_told : Answer → Result Record (ℕ × ℕ)
any_told a = cond (eqb a.number 0) (Ok a.content) (Err (a.number, a.detail))

by_number : (b : Bool) (a : Answer)
    → told_lines (cond b (Ok a.content) (Err (a.number, a.detail))) ≡ cond b (six_lines a.content) (two_lines a.number a.detail)
by_number true a = refl
by_number false a = refl

pub any_report : (a : Answer) → told_lines (any_told a) ≡ report_of a
unfolding report_of
any_report a = by_number (eqb a.number 0) a

-- what is told of an answer is its report
pub told_report : (x : Result Record Refusal) → told_lines (told_as x) ≡ report_of (answer_by x)
told_report (Ok r) = record_is (answer_by (Ok r)) refl
told_report (Err e) = refusal_is (answer_by (Err e)) (not_none e)
