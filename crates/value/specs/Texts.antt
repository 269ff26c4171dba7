-- The text of a value. Document 01, "Written form": numbers in shortest form, lists without blanks. Document 02, A1: the writer keeps its spelling.
use Rattle.std.specs.Prelude.{ℕ, take, Bool, true, not, List, []}
use Rattle.value_date.specs.Date.{date_text}
use Rattle.value_list.specs.Forms.{numbers_text, gradients_text}
use Rattle.value_list.specs.declared.Triple.{Triple}
use Rattle.value_name.specs.Names.{identifier_text, sequence_text}
use Rattle.value_name.specs.declared.MessageType.{MessageType}
use Rattle.value_number.specs.Number.{are_short, number_text}
use Rattle.value.specs.declared.Rooms.{Rooms as Lent}
use Rattle.value.specs.declared.Value.{Value}
use Rattle.value.specs.declared.Value.TheVariants.{Blank, Id, Unit, When, Amount, Count, Reason, Note, Word, List as Numbers, Triples, Voltage}
use Rattle.value.specs.declared.Value.TheVariants.{Regulator, Change, Reactive}
use Rattle.value_word.specs.Words.{word, is_joined}
use Rattle.std.specs.Borrow.{Bor}
use denote.Triple.Both.{Both}

-- the rooms of a record in which texts and triples stand; a value says how much of its room is used
pub record Rooms : Type 0 where
  pub unit : List ℕ
  pub reason : List ℕ
  pub note : List ℕ
  pub gradients : List Triple

abbrev pub rooms : List ℕ → List ℕ → List ℕ → List Triple → Rooms
rooms u r n g = record { unit = u; reason = r; note = n; gradients = g }

-- the rooms that three lent slices hold when a call begins, as a contract names the slices, and the triples beside them
abbrev pub lent_rooms : {X Y Z : Type 0} → Both (Bor (List ℕ)) X → Both (Bor (List ℕ)) Y → Both (Bor (List ℕ)) Z → List Triple → Rooms
lent_rooms u r n g = rooms u.entry.now r.entry.now n.entry.now g

-- the rooms that are lent together
abbrev pub rooms_in : Lent → Rooms
rooms_in r = rooms r.unit.now r.reason.now r.note.now r.gradients

-- the text of a value of a message of type t. A value says its own text: its kind is not asked.
unfoldable pub value_text : MessageType → Rooms → Value → List ℕ
value_text t r Blank = []
value_text t r (Id n) = identifier_text t n
value_text t r (Unit n) = take n r.unit
value_text t r (When d) = date_text d
value_text t r (Amount v) = number_text v
value_text t r (Count n) = sequence_text n
value_text t r (Reason n) = take n r.reason
value_text t r (Note n) = take n r.note
value_text t r (Word w) = word w
value_text t r (Numbers x) = numbers_text 59 x
value_text t r (Triples n) = gradients_text r.gradients n
value_text t r (Voltage v) = number_text v.0
value_text t r (Regulator v) = number_text v.0
value_text t r (Change v) = number_text v.0
value_text t r (Reactive v) = number_text v.0

-- ---- a text that is written already

-- whether the text that a value was read from is the value's own text: a number stands in its shortest form, a word with its space, and what is
-- neither stands as it is written
unfoldable pub is_written : Value → List ℕ → Bool
is_written Blank s = true
is_written (Id n) s = true
is_written (Unit n) s = true
is_written (When d) s = true
is_written (Amount v) s = are_short s
is_written (Count n) s = true
is_written (Reason n) s = true
is_written (Note n) s = true
is_written (Word w) s = not (is_joined s)
is_written (Numbers x) s = are_short s
is_written (Triples n) s = are_short s
is_written (Voltage v) s = are_short s
is_written (Regulator v) s = are_short s
is_written (Change v) s = are_short s
is_written (Reactive v) s = are_short s
