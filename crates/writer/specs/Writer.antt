-- What the writer and the normaliser answer, and what they leave in the output. Document 01, "Refusal numbers": writer 12, 11; normaliser the reader's,
-- then 11, with the length as its detail. A write that succeeds leaves the bytes past its length unchanged; a refusal changes none.
use Rattle.std.specs.Prelude.{ℕ, eqb, leb, length, cond, List, [], ◌∷◌, Result, Ok, Err}
use Rattle.reader.specs.Refusals.{Answer}
use Rattle.record.specs.declared.Record.{Record}
use Rattle.refusal.specs.Numbers.{number_of, detail_of}
use Rattle.refusal.specs.declared.Refusal.{Refusal}
use Rattle.text.specs.Puts.{buffer_of}
use Rattle.text.specs.Said.{Said, said}
use Rattle.record_check.specs.Validity.{is_valid}
use Rattle.writer_form.specs.Written.{file_of}

-- how many bytes were written, or a refusal's number and detail
pub data Written : Type 0 where
  Length : ℕ → Written
  Refused : ℕ → ℕ → Written

-- what the functions answer, said so
abbrev pub written_by : Result ℕ Refusal → Written
written_by (Ok n) = Length n
written_by (Err e) = Refused (number_of e) (detail_of e)

-- what an answer says: the length that is written, or a refusal's number and detail
abbrev pub of_written : Written → Said
of_written (Length n) = said 0 0 (n ∷ [])
of_written (Refused n d) = said n d []

-- a text for a room of so many bytes: its length, or 11
unfoldable pub fitted : List ℕ → ℕ → Written
fitted t room = cond (leb (length t) room) (Length (length t)) (Refused 11 (length t))

-- ---- the writer

unfoldable pub write_of : Record → ℕ → Written
write_of r room = cond (is_valid r) (fitted (file_of r) room) (Refused 12 0)

-- the output after it
unfoldable pub left_by : Record → List ℕ → List ℕ
left_by r out = cond (is_valid r) (buffer_of out 0 (file_of r)) out

-- ---- the normaliser, by the reader's answer

unfoldable pub normalise_of : Answer → ℕ → Written
normalise_of a room = cond (eqb a.number 0) (fitted (file_of a.content) room) (Refused a.number a.detail)

unfoldable pub normal_left : Answer → List ℕ → List ℕ
normal_left a out = cond (eqb a.number 0) (buffer_of out 0 (file_of a.content)) out
