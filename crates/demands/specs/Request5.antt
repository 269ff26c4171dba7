-- Request A5 of document 02, "Profiles with fewer than 24 values", sentence by sentence, over the definitions that the contracts name. `Profile`, what A.34
-- says of the six h lines, and `HLists`, that each filled one is a list of one to four, are in record_rules/specs/Profiles.antt. Bytes: 59 ';'.
use Rattle.std.specs.Prelude.{ℕ, ◌≤◌, ◌<◌, ℤ, length, true, List, ◌↔◌, ◌≡◌, None, Option, Some}
use Rattle.layout.specs.declared.Layout.TheVariants.{Market}
use Rattle.reader.specs.Reader.{read_of}
use Rattle.record.specs.declared.Cell.{Cell}
use Rattle.record.specs.declared.Record.{Record}
use Rattle.record_rules.specs.Profiles.{h_line, HLists, Profile}
use Rattle.record_rules.specs.Rules.{in_order, updated, profiled, broken_in}
use Rattle.record_valid.specs.Valid.{Valid}
use Rattle.value.specs.Kinds.{shape_of}
use Rattle.value.specs.Texts.{Rooms, value_text}
use Rattle.value.specs.declared.Shape.TheVariants.{IsProfile}
use Rattle.value.specs.declared.Value.TheVariants.{List as Numbers}
use Rattle.value_ask.specs.Values.{list_size}
use Rattle.value_list.specs.Forms.{amount_of, numbers_of, list_of, ValidNumbers}
use Rattle.value_list.specs.Lists.{cut_at, every_of, list_text}
use Rattle.value_list.specs.declared.Numbers.{Numbers as Few}
use Rattle.value_name.specs.declared.MessageType.{MessageType}
use Rattle.value_number.specs.Number.{number_text}

-- the numbers of an h line: none where a part between ';' is no number
abbrev pub parts_read : List ℕ → Option (List ℤ)
parts_read s = every_of amount_of (cut_at 59 s)

pub record Request5 : Type 0 where
  -- "Reading a list must now say how many numbers it found": one to four numbers are read as these, with how many they are
  pub found : (s : List ℕ) (l : List ℤ) → parts_read s ≡ Some l → 1 ≤ length l → length l ≤ 4
      → (shape_of IsProfile s ≡ Some (Numbers (numbers_of l))) × (list_size (Numbers (numbers_of l)) ≡ length l) × (list_of (numbers_of l) ≡ l)
  -- "five are 7": five or more, as a part that is no number, are no value, which is 7 at the line's field
  pub five : (s : List ℕ) (l : List ℤ) → parts_read s ≡ Some l → 5 ≤ length l → shape_of IsProfile s ≡ None
  pub no_number : (s : List ℕ) → parts_read s ≡ None → shape_of IsProfile s ≡ None
  -- "the first filled line may hold one to four, and only later lines must hold four": rule 3 says this of lines that are lists of one to four
  pub profile_exactly : (cells : List Cell) → HLists cells → profiled cells ≡ true ↔ Profile cells
  -- "one to three values in a line that isn't the first filled is rule 3": where 1 and 2 hold, it is told exactly where the lines are no profile
  pub rule_three : (r : Record) → r.layout ≡ Market → HLists r.cells
      → broken_in r ≡ 3 ↔ (in_order r.cells ≡ true) × (updated r.cells ≡ true) × (Profile r.cells → ⊥)
  -- "the record [...] follow[s]": the lines of a valid one are such a profile; each list says how many numbers it has, one to four, and unused ones are zero
  pub valid_profile : (r : Record) → Valid r → r.layout ≡ Market → HLists r.cells × Profile r.cells
  pub valid_list : (r : Record) → Valid r → r.layout ≡ Market → (k : ℕ) (x : Few) → k < 6 → h_line r.cells k ≡ Numbers x → ValidNumbers 1 4 x
  -- so are those of every file that is accepted
  pub accepted_profile : (ca ioa : ℕ) (plan file : List ℕ) → (read_of ca ioa plan file).number ≡ 0 → (read_of ca ioa plan file).content.layout ≡ Market
      → Profile (read_of ca ioa plan file).content.cells
  -- "the row and the writer": the text of a line, of which the written row is made too, has as many numbers as there are. (That the row agrees with the body
  -- and that a valid record comes back the same are demand 2, word for word)
  pub written : (t : MessageType) (r : Rooms) (x : Few) → value_text t r (Numbers x) ≡ list_text number_text 59 (list_of x)
