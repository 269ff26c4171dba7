-- Demand 1, sentence by sentence, over the definitions that the contracts name. (`IsFirst`, a refusal that is the first of a list to hold, is in
-- reader/specs/Refusals.antt; `of_written`, `of_wrote`, `of_time`, what an answer that is an enum says, stand beside their enums' definitions)
use Rattle.std.specs.Prelude.{ℕ, ◌≤◌, ◌<◌, eqb, leb, length, Bool, true, ◌||◌, cond, List, [], ◌∷◌, ◌↔◌, ◌≡◌}
use Rattle.book.specs.Answers.{outcome_of, deed_outcome_of, asked_of, shown_of}
use Rattle.book.specs.declared.Book.{Book}
use Rattle.report_brief.specs.Brief.{six_lines}
use Rattle.demands.specs.Calls.{Calls, Meets}
use Rattle.demands.specs.CallContracts.{Contracts}
use Rattle.gateway.specs.Entry.{entry_code, out_of}
use Rattle.book_ledger.specs.Calls.{Call, Deed}
use Rattle.plan.specs.Plans.{plan_of, sought_of}
use Rattle.reader.specs.Reader.{planned, read_of}
use Rattle.reader.specs.Refusals.{IsFirst}
use Rattle.record.specs.Records.{zero_record}
use Rattle.record.specs.declared.Record.{Record}
use Rattle.record_check.specs.Validity.{is_valid}
use Rattle.text.specs.Puts.{wrote_of, of_wrote, buffer_of}
use Rattle.text.specs.Said.{Said, said}
use Rattle.times.specs.Times.{time_of, of_time}
use Rattle.times_sheet.specs.declared.Which.{Which}
use Rattle.writer.specs.Writer.{of_written, write_of, left_by, normalise_of, normal_left}
use Rattle.writer_form.specs.Written.{file_of}

-- the numbers that the reader may answer: 0, and of document 01's list 13 and 1 to 10
abbrev pub is_readers : ℕ → Bool
is_readers n = eqb n 13 || leb n 10

-- what is said of a text for a room of so many bytes: its length, or 11 with it
abbrev pub says_room : List ℕ → ℕ → Said
says_room t room = cond (leb (length t) room) (said 0 0 (length t ∷ [])) (said 11 (length t) [])

-- an entry for C that writes this text of a record leaves the output as it was, where its answer is a refusal: 65,536 or more
abbrev pub Leaves : (Record → List ℕ) → Type 0
Leaves text =
    (ca ioa : ℕ) (plan file out : List ℕ) → 65536 ≤ entry_code text (read_of ca ioa plan file) (length out) → out_of text (read_of ca ioa plan file) out ≡ out

pub record Demand1 : Type 2 where
  -- "Every file, address, record and book put to us gets an answer": the code of each call meets its contract, and the contract says which answer
  pub code : Meets
  pub contracts : Contracts
  -- "and no caller needs to have tested anything first.": no contract asks anything. (One answer at most satisfies it, so there is exactly one)
  pub calls : Calls
  -- the reader's answer has the number 0, or one of its list with a detail of 16 bits
  pub answered : (ca ioa : ℕ) (plan file : List ℕ) → (is_readers (read_of ca ioa plan file).number ≡ true) × ((read_of ca ioa plan file).detail < 65536)
  -- what a write says: 12, 11 or the length; and the normaliser: the reader's, 11 or the length
  pub write_says : (r : Record) (room : ℕ) → of_written (write_of r room) ≡ cond (is_valid r) (says_room (file_of r) room) (said 12 0 [])
  pub normalise_says : (ca ioa : ℕ) (plan file : List ℕ) (room : ℕ)
      → of_written (normalise_of (read_of ca ioa plan file) room)
      ≡ cond (eqb (read_of ca ioa plan file).number 0) (says_room (file_of (read_of ca ioa plan file).content) room)
      (said (read_of ca ioa plan file).number (read_of ca ioa plan file).detail [])
  -- "A refused file yields one number and its detail and no record." The number and the detail are those of the first refusal of the list that holds
  pub refused_file : (ca ioa : ℕ) (plan file : List ℕ) → ((read_of ca ioa plan file).number ≡ 0 → ⊥) → (read_of ca ioa plan file).content ≡ zero_record
  pub refused_first : (ca ioa : ℕ) (plan file : List ℕ)
      → ((read_of ca ioa plan file).number ≡ 0 → ⊥)
      → IsFirst (planned (sought_of ca ioa (plan_of plan)) file) (read_of ca ioa plan file)
  -- "A refused write leaves the output buffer as the caller lent it." The writer, the normaliser, one value, and the two entries
  pub refused_write : (r : Record) (out : List ℕ) → ((of_written (write_of r (length out))).number ≡ 0 → ⊥) → left_by r out ≡ out
  pub refused_normalise : (ca ioa : ℕ) (plan file out : List ℕ)
      → ((of_written (normalise_of (read_of ca ioa plan file) (length out))).number ≡ 0 → ⊥)
      → normal_left (read_of ca ioa plan file) out ≡ out
  pub refused_value : (out : List ℕ) (at : ℕ) (text : List ℕ) → ((of_wrote (wrote_of out at text)).number ≡ 0 → ⊥) → buffer_of out at text ≡ out
  pub refused_read_entry : Leaves six_lines
  pub refused_normalise_entry : Leaves file_of
  -- "A refused book call hands the same book back." Of every book of the code, whose rooms have these sizes; the question and the panel
  -- hand it back in any case
  pub refused_call : (k : Call) (b : Book) → length b.orders ≡ 96 → length b.unit ≡ 16 → ((outcome_of k b).number ≡ 0 → ⊥) → (outcome_of k b).book ≡ b
  pub refused_deed : (d : Deed) (b : Book) → ((deed_outcome_of d b).number ≡ 0 → ⊥) → (deed_outcome_of d b).book ≡ b
  pub question : (t : ℕ) (b : Book) → (asked_of t b).book ≡ b
  pub panel : (b : Book) → (shown_of b).book ≡ b
  -- The times: "A refusal gives an empty part, which no value is"
  pub refused_time : (w : Which) (ca ioa : ℕ) (plan file sheet : List ℕ)
      → ((of_time file sheet (time_of w ca ioa plan file sheet)).number ≡ 0 → ⊥) ↔ (of_time file sheet (time_of w ca ioa plan file sheet)).values ≡ []
