-- The ends of the normaliser, on what was read: its refusal, or the message of the file's own texts, which is the file of the record.
-- Assumes nothing.
use Prim.Native.Nat.{ℕ}
use Rattle.reader_fill.specs.Filled.{record_with}
use Rattle.layout.specs.Layouts.{kinds_of}
use Rattle.layout.specs.Rows.{text_at}
use Rattle.reader.proofs.Concluding.{concluded_no, concluded_yes}
use Rattle.reader.specs.Messages.{values_of, good_of}
use Rattle.reader.specs.Reader.{read_of}
use Rattle.reader.specs.Refusals.{refused, accepted}
use Rattle.reader.specs.Readings.{reading_of}
use Rattle.reader.specs.State.{column_at}
use Rattle.reader.specs.Refusals.{Answer}
use Rattle.reader.specs.Readings.{ReadingSaid}
use Rattle.reader_theorems.proofs.Held.{unit_short, reason_short, note_short}
use Rattle.reader_theorems.proofs.Readings.{Reads, reads_of}
use Rattle.reader_theorems.proofs.Validity.{good_of_lem}
use Rattle.layout.specs.FieldNumbers.{reason_field, note_field}
use Rattle.record.specs.Records.{typed, rooms_of}
use Rattle.record.specs.Records.Typed.{good}
use Rattle.record.specs.declared.Record.{Record}
use Rattle.value_put.specs.Rooms.{Narrow}
use Rattle.text_room.specs.Rooms.{kept_in}
use Rattle.value.specs.Texts.{Rooms, rooms}
use Rattle.writer.proofs.Ends.{Put}
use Rattle.writer.proofs.Held.{read_held}
use Rattle.writer.proofs.Own.{own_held, own_text}
use Rattle.writer.specs.Writer.{normalise_of, normal_left}
use Rattle.writer.specs.Writer.{Written}
use Rattle.writer.specs.Writer.Written.{Refused}
use Rattle.writer_form.specs.Held.{Held}
use Rattle.writer_form.specs.Written.{message_text, file_of}
use borrow.Author.Tests.{ne_eqb}
use lib.ListN.{length}
use mathlib.Core.List.{List}
use mathlib.Core.Path.{◌≡◌, refl, ap, ◌∙◌, subst}
use native.Mathlib.Omega.{arith}

-- ---- an answer

module _ (out : List ℕ) where
  abbrev pub Normal : Answer → Written → List ℕ → Type 0
  Normal a w m = (w ≡ normalise_of a (length out)) × (m ≡ normal_left a out)

  refused_normal : (n d : ℕ) → (n ≡ 0 → ⊥) → Normal (refused n d) (Refused n d) out
  unfolding normalise_of normal_left
  refused_normal n d h = rw (ne_eqb n 0 h) (refl, refl)

  accepted_normal : (r : Record) (w : Written) (m : List ℕ) → Put (file_of r) out w m → Normal (accepted r) w m
  unfolding normalise_of normal_left
  accepted_normal r w m p = p

-- ---- what was read of a file

module _ (ca ioa : ℕ) (plan file : List ℕ) (x : ReadingSaid) (is : x ≡ reading_of ca ioa plan file) where
  reads : Reads ca ioa plan file x
  reads = reads_of ca ioa plan file x is

  abbrev answer : Answer
  answer = read_of ca ioa plan file

  pub refused_end : (out : List ℕ) → (x.number ≡ 0 → ⊥) → Normal out answer (Refused x.number x.detail) out
  refused_end out n =
      subst (λ (a : Answer). Normal out a (Refused x.number x.detail) out) (concluded_no file x n ∙ reads.answers)
      (refused_normal out x.number x.detail n)

  abbrev column : List (List ℕ)
  column = column_at x.layout file x.places

  abbrev body : Record
  body = record_with x.layout column x.cells x.gradients

  -- the unit, the reason and the note as they stand in the file
  module _ (yes : x.number ≡ 0) (u s n : List ℕ) (j k : ℕ)
      (u_is : u ≡ text_at column 2) (j_is : j ≡ reason_field x.layout) (s_is : s ≡ text_at column j) (k_is : k ≡ note_field x.layout) (n_is : n ≡ text_at column k) where
    read_as : accepted body ≡ answer
    read_as = concluded_yes file x yes ∙ reads.answers

    s_at : s ≡ text_at column (reason_field x.layout)
    s_at = s_is ∙ ap (text_at column) j_is

    n_at : n ≡ text_at column (note_field x.layout)
    n_at = n_is ∙ ap (text_at column) k_is

    -- each was read, so it fits the record's room
    read_good : typed 1 (kinds_of x.layout) column ≡ good (good_of (values_of x.layout column))
    unfolding values_of
    read_good = good_of_lem (values_of x.layout column) (reads.readable yes)

    narrow : Narrow (rooms u s n x.gradients)
    narrow =
        record {
          unit_few = omega (arith, ap length u_is, unit_short x.layout column _ read_good);
          reason_few = omega (arith, ap length s_at, reason_short x.layout column _ read_good);
          note_few = omega (arith, ap length n_at, note_short x.layout column _ read_good);
        }

    abbrev kept : Rooms
    kept = rooms (kept_in 16 u) (kept_in 128 s) (kept_in 256 n) x.gradients

    kept_is : kept ≡ rooms_of body
    unfolding record_with
    kept_is = rw (u_is, s_at, n_at)

    kept_held : Held x.layout kept x.cells
    unfolding record_with
    kept_held = rw kept_is (read_held (accepted body) ca ioa plan file read_as refl)

    pub taken_held : Held x.layout (rooms u s n x.gradients) x.cells
    taken_held = own_held x.layout u s n x.gradients x.cells narrow kept_held

    file_is : message_text x.layout (rooms u s n x.gradients) x.cells ≡ file_of body
    unfolding file_of record_with
    file_is =
        own_text x.layout u s n x.gradients x.cells narrow kept_held
        ∙ ap (λ (r : Rooms). message_text x.layout r x.cells) kept_is

    pub taken_end : (out : List ℕ) (w : Written) (m : List ℕ) → Put (message_text x.layout (rooms u s n x.gradients) x.cells) out w m
        → Normal out answer w m
    taken_end out w m p =
        subst (λ (a : Answer). Normal out a w m) read_as (accepted_normal out body w m (subst (λ (t : List ℕ). Put t out w m) file_is p))
