-- Demand 2, sentence by sentence, over the definitions that the contracts name. (`Clean`, allowed size and bytes, `Sound`, separators too, and `body_column`,
-- the body's values, are in reader/specs/Reader.antt; `Perm`, another order, in text_lines/specs/Order.antt; other blanks in Spaced.antt)
use Rattle.std.specs.Prelude.{ℕ, ◌≤◌, length, take, Bool, true, false, List, [], ◌∷◌, ◌↔◌, ◌≡◌, None}
use Rattle.demands.specs.Spaced.{Pairwise, SpacedLine, SpacedEntry, parts, triples}
use Rattle.layout.specs.Rows.{row_of}
use Rattle.layout.specs.declared.Layout.{Layout}
use Rattle.value_name.specs.declared.MessageType.{MessageType}
use Rattle.text_lines.specs.Order.{Perm}
use Rattle.text_lines.specs.Entries.{again}
use Rattle.text_lines.specs.Lines.{texts}
use Rattle.plan.specs.Plans.{plan_of, sought_of}
use Rattle.plan.specs.Plans.{SoughtSaid}
use Rattle.reader.specs.Messages.{given, row_in, layout_in, entries_in}
use Rattle.reader.specs.Reader.{Clean, Sound, body_column, record_in, planned, read_of}
use Rattle.reader.specs.Refusals.{accepted}
use Rattle.text.specs.Refusals.{Refusal}
use Rattle.record.specs.declared.Record.{Record}
use Rattle.writer_theorems.specs.Own.{OwnAddress}
use Rattle.text.specs.Bytes.{any, same}
use Rattle.text.specs.Said.{said}
use Rattle.record_valid.specs.Valid.{Valid}
use Rattle.record_check.specs.Validity.{is_valid}
use Rattle.value_list.specs.Forms.{profile_of, bands_of, gradients_in}
use Rattle.writer.specs.Writer.{of_written, write_of, left_by}
use Rattle.writer_form.specs.Written.{file_of}

-- what a plan gives to an address: its type is the `message`
abbrev pub address : ℕ → ℕ → List ℕ → SoughtSaid
address ca ioa plan = sought_of ca ioa (plan_of plan)

-- that type, and the layout of a file of it
abbrev pub type_at : ℕ → ℕ → List ℕ → MessageType
type_at ca ioa plan = (address ca ioa plan).message

abbrev pub layout_at : ℕ → ℕ → List ℕ → List ℕ → Layout
layout_at ca ioa plan file = layout_in (type_at ca ioa plan) (given (type_at ca ioa plan) file)

-- whether the row of a file is the row of its own body
abbrev pub row_is_own : ℕ → ℕ → List ℕ → List ℕ → Bool
row_is_own ca ioa plan file = same (row_in file) (row_of (layout_at ca ioa plan file) (body_column (type_at ca ioa plan) file))

pub record Demand2 : Type 0 where
  -- "A file is accepted exactly when Annex A.34 Rev. 10, as document 01 reads it, allows it": when no refusal of document 01's list holds
  pub accepted_exactly : (ca ioa : ℕ) (plan file : List ℕ)
      → (read_of ca ioa plan file).number ≡ 0 ↔ any (λ (r : Refusal). r.holds) (planned (address ca ioa plan) file) ≡ false
  -- "and its record is the one that text gives", and a valid one
  pub its_record : (ca ioa : ℕ) (plan file : List ℕ)
      → (read_of ca ioa plan file).number ≡ 0
      → (read_of ca ioa plan file).content ≡ record_in (type_at ca ioa plan) file
  pub its_validity : (ca ioa : ℕ) (plan file : List ℕ) → (read_of ca ioa plan file).number ≡ 0 → Valid (read_of ca ioa plan file).content
  -- "however its lines are ordered and spaced.": any file of allowed size, bytes and separators (`Sound`) with the same row and the same parameters, in another
  -- order, with other blanks about label and value (`given` has them trimmed) and with either spelling of a label (`given` has the plain one), is accepted with
  -- the same record
  pub however : (ca ioa : ℕ) (plan f g : List ℕ)
      → (read_of ca ioa plan f).number ≡ 0
      → Sound (type_at ca ioa plan) g
      → row_in g ≡ row_in f
      → Perm (given (type_at ca ioa plan) f) (given (type_at ca ioa plan) g)
      → read_of ca ioa plan g ≡ read_of ca ioa plan f
  -- and with other lines besides, whose labels are foreign to the layout ("passed over")
  pub passed_over : (ca ioa : ℕ) (plan f g : List ℕ)
      → (read_of ca ioa plan f).number ≡ 0
      → Sound (type_at ca ioa plan) g
      → row_in f ≡ row_in g
      → layout_at ca ioa plan g ≡ layout_at ca ioa plan f
      → Perm (entries_in (type_at ca ioa plan) f) (entries_in (type_at ca ioa plan) g)
      → read_of ca ioa plan g ≡ read_of ca ioa plan f
  -- and a refused one is refused alike: in another order, where no label of the layout stands twice (refusal 5 tells the first repeat from the top)
  pub ordered_alike : (ca ioa : ℕ) (plan f g : List ℕ) → Sound (type_at ca ioa plan) f → Sound (type_at ca ioa plan) g
      → row_in f ≡ row_in g
      → Perm (given (type_at ca ioa plan) f) (given (type_at ca ioa plan) g)
      → again [] (entries_in (type_at ca ioa plan) f) ≡ None
      → read_of ca ioa plan f ≡ read_of ca ioa plan g
  -- with other blanks at the ends of its lines and other line ends
  pub spaced_alike : (ca ioa : ℕ) (plan f g : List ℕ) → Clean (type_at ca ioa plan) f → Clean (type_at ca ioa plan) g → texts f ≡ texts g
      → read_of ca ioa plan f ≡ read_of ca ioa plan g
  -- and with other blanks about `=`, a label that stands twice too: "label and value are trimmed"
  pub parted_alike : (ca ioa : ℕ) (plan f g : List ℕ) → Clean (type_at ca ioa plan) f → Clean (type_at ca ioa plan) g
      → Pairwise SpacedLine (texts f) (texts g)
      → row_in f ≡ row_in g
      → read_of ca ioa plan f ≡ read_of ca ioa plan g
  -- "Parts of a list are trimmed.": texts with the same parts are read as the same list
  pub lists_alike : (s t : List ℕ) → parts 59 s ≡ parts 59 t → (profile_of s ≡ profile_of t) × (bands_of s ≡ bands_of t)
  pub gradients_alike : (s t : List ℕ) → triples s ≡ triples t → gradients_in s ≡ gradients_in t
  -- and two files whose fields differ in blanks inside lists are answered alike, where the row of each, or of neither, is that of its own body
  pub listed_alike : (ca ioa : ℕ) (plan f g : List ℕ) → Sound (type_at ca ioa plan) f → Sound (type_at ca ioa plan) g
      → layout_at ca ioa plan f ≡ layout_at ca ioa plan g
      → Pairwise (SpacedEntry (layout_at ca ioa plan f)) (entries_in (type_at ca ioa plan) f) (entries_in (type_at ca ioa plan) g)
      → row_is_own ca ioa plan f ≡ row_is_own ca ioa plan g
      → read_of ca ioa plan f ≡ read_of ca ioa plan g
  -- "Its summary row agrees with its body byte for byte."
  pub row_agrees : (ca ioa : ℕ) (plan file : List ℕ)
      → (read_of ca ioa plan file).number ≡ 0
      → row_in file ≡ row_of (layout_at ca ioa plan file) (body_column (type_at ca ioa plan) file)
  -- "A valid record, written and read at its own address, comes back the same."
  pub comes_back : (r : Record) (ca ioa : ℕ) (plan : List ℕ) → Valid r → OwnAddress r ca ioa plan → read_of ca ioa plan (file_of r) ≡ accepted r
  -- and `file_of r` is what is written: into 8,192 bytes or more always. (The writer's own test is of the same records)
  pub written : (r : Record) (out : List ℕ) → Valid r
      → 8192 ≤ length out
      → (of_written (write_of r (length out)) ≡ said 0 0 (length (file_of r) ∷ [])) × (take (length (file_of r)) (left_by r out) ≡ file_of r)
  -- and whatever the room, what a write that succeeds has written is read back as the record
  pub written_back : (r : Record) (ca ioa : ℕ) (plan out : List ℕ) (n : ℕ) → OwnAddress r ca ioa plan
      → of_written (write_of r (length out)) ≡ said 0 0 (n ∷ [])
      → read_of ca ioa plan (take n (left_by r out)) ≡ accepted r
  pub valid_exactly : (r : Record) → is_valid r ≡ true ↔ Valid r
  -- the normaliser: the written form of what was read gives the same answer
  pub normal_form : (ca ioa : ℕ) (plan file : List ℕ)
      → (read_of ca ioa plan file).number ≡ 0
      → read_of ca ioa plan (file_of (read_of ca ioa plan file).content) ≡ read_of ca ioa plan file
