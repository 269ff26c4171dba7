-- The two entries that the host calls, one reading and one normalising. Document 01, "What is built": on success the length written, else 65,536 times
-- the refusal number plus the detail; their refusals are the reader's, then 11, no room for the output, with its length. A refusal changes no byte of the
-- output, a success none past its length. What is written of a record is its six lines (`six_lines`), or its file (`file_of`).
use Rattle.std.specs.Prelude.{ℕ, ◌+◌, ◌*◌, eqb, leb, length, cond, List, Result, Ok, Err}
use Rattle.reader.specs.Refusals.{Answer}
use Rattle.record.specs.declared.Record.{Record}
use Rattle.refusal.specs.Numbers.{number_of, detail_of}
use Rattle.refusal.specs.declared.Refusal.{Refusal}
use Rattle.text.specs.Puts.{buffer_of}

abbrev pub code : ℕ → ℕ → ℕ
code n d = 65536 * n + d

-- a length, or a refusal, as one number
abbrev pub code_by : Result ℕ Refusal → ℕ
code_by (Ok n) = n
code_by (Err e) = code (number_of e) (detail_of e)

-- with a text to be written into a room
unfoldable pub length_or11 : List ℕ → ℕ → ℕ
length_or11 t room = cond (leb (length t) room) (length t) (code 11 (length t))

-- THE DEFINITION: the entry that writes the text of a record, by the reader's answer
unfoldable pub entry_code : (Record → List ℕ) → Answer → ℕ → ℕ
entry_code text a room = cond (eqb a.number 0) (length_or11 (text a.content) room) (code a.number a.detail)

-- the output after the call
unfoldable pub out_of : (Record → List ℕ) → Answer → List ℕ → List ℕ
out_of text a out = cond (eqb a.number 0) (buffer_of out 0 (text a.content)) out
