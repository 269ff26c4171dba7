-- One line of a text: its key, and its value as one number: a whole number, an amount by how far it is above -1,000,000,000, a kind's letter as 0 (M) or
-- 1 (F). Document 02, A4: "numbers are whole, without leading zeros, and none is `-0`".
use Rattle.std.specs.Prelude.{ℕ, ◌+◌, ◌-◌, ◌≤◌, eqb, ltb, length, drop, get_or, cond, List, [], ◌∷◌, None, Option, Some}
use Rattle.saved_lines.specs.declared.Key.{Key}
use Rattle.saved_lines.specs.declared.Key.TheVariants.{Form, Floor, Count, Number, Kind, Start, End, Var1, Var2, Struck}
use Rattle.saved_lines.specs.declared.Met.{Met}
use Rattle.saved_lines.specs.declared.Met.TheVariants.{Says, Wrong, Over}
use Rattle.saved_lines.specs.declared.NextLine.{NextLine}
use Rattle.saved_lines.specs.declared.Sort.{Sort}
use Rattle.saved_lines.specs.declared.Sort.TheVariants.{Whole, Amount, Letter}
use Rattle.saved_lines.specs.declared.keys.KeyText.{KeyText}
use Rattle.text.specs.Bytes.{bytes, same, starts, first_of}
use Rattle.text.specs.Puts.{room_of}
use Rattle.text_keyline.specs.Keylines.{line_of, value_in, line_text, if_line, ranged, whole_in}
use Rattle.value_bounds.specs.Bounds.{most_number, most_amount}
use Rattle.value_name.specs.Names.{sequence_of, sequence_text}

-- ---- keys

abbrev pub key_text : Key → List ℕ
key_text Form = bytes "form="
key_text Floor = bytes "floor="
key_text Count = bytes "count="
key_text Number = bytes "number="
key_text Kind = bytes "kind="
key_text Start = bytes "start="
key_text End = bytes "end="
key_text Var1 = bytes "var1="
key_text Var2 = bytes "var2="
key_text Struck = bytes "struck="

abbrev pub key_room : List ℕ → KeyText
key_room t = record { size = length t; room = room_of 8 t }

-- ---- a value that is read

-- the number of the amount 0
abbrev pub zero_amount : ℕ
zero_amount = 1000000000

abbrev pub above_zero : Option ℕ → Option ℕ
above_zero (Some n) = Some (zero_amount + n)
above_zero None = None

abbrev pub below_zero : Option ℕ → Option ℕ
below_zero (Some n) = Some (zero_amount - n)
below_zero None = None

-- none is -0
unfoldable pub amount_of : List ℕ → Option ℕ
amount_of s = cond (starts (bytes "-") s) (below_zero (whole_in 1 most_amount (drop 1 s))) (above_zero (whole_in 0 most_amount s))

unfoldable pub letter_of : List ℕ → Option ℕ
letter_of s = cond (same (bytes "M") s) (Some 0) (cond (same (bytes "F") s) (Some 1) None)

abbrev pub value_of : Sort → List ℕ → Option ℕ
value_of Whole s = sequence_of s
value_of Amount s = amount_of s
value_of Letter s = letter_of s

-- the value of the first line of a text, if it has this key, a value of this sort from lo to hi, and its LF
unfoldable pub line_value : Key → Sort → ℕ → ℕ → List ℕ → Option ℕ
line_value k x lo hi s = if_line (line_of (key_text k) s) (ranged lo hi (value_of x (value_in (key_text k) s)))

-- the line that comes next, with the least and the greatest number that its value may be; or none
pub data Next : Type 0 where
  Line : Key → Sort → ℕ → ℕ → Next
  Done : Next

-- what an answer says
abbrev pub next_by : Option NextLine → Next
next_by (Some l) = Line l.key l.sort l.least l.most
next_by None = Done

-- a line as it is met: its value and where its LF stands, that it is wrong, or that no line is wanted any more
abbrev pub met_in : Option ℕ → List ℕ → Met
met_in (Some v) s = Says v (first_of 10 s)
met_in None s = Wrong

abbrev pub met_of : Next → List ℕ → Met
met_of (Line k x lo hi) s = met_in (line_value k x lo hi s) s
met_of Done s = Over

-- ---- a value that is written

-- `-` is 45
unfoldable pub amount_text : ℕ → List ℕ
amount_text v = cond (ltb v zero_amount) (45 ∷ sequence_text (zero_amount - v)) (sequence_text (v - zero_amount))

unfoldable pub letter_text : ℕ → List ℕ
letter_text v = cond (eqb v 0) (bytes "M") (bytes "F")

abbrev pub value_text : Sort → ℕ → List ℕ
value_text Whole v = sequence_text v
value_text Amount v = amount_text v
value_text Letter v = letter_text v

abbrev pub next_text : Next → ℕ → List ℕ
next_text (Line k x lo hi) v = line_text (key_text k) (value_text x v)
next_text Done v = []

-- ---- the values that there are of a sort, and those that a line may have

abbrev pub IsOf : Sort → ℕ → Type 0
IsOf Whole v = v ≤ most_number
IsOf Amount v = (1 ≤ v) × (v ≤ zero_amount + most_amount)
IsOf Letter v = v ≤ 1

abbrev pub MayBe : Next → ℕ → Type 0
MayBe (Line k x lo hi) v = (lo ≤ v) × (v ≤ hi) × IsOf x v
MayBe Done v = ⊥

-- values of at most ten digits, as all are
abbrev pub Small : List ℕ → Type 0
Small vs = (i : ℕ) → get_or vs i 0 ≤ most_number
