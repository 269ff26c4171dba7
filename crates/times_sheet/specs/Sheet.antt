-- The unit sheet. Document 01, "Times": `unit=`, `avviamento=`, `rampa=`, three lines, LF (10) each, the last two holding a number. docs/READINGS.md,
-- "The times": no blanks, nothing after the third line, the unit is the message's; a number's part is what follows `=` up to the LF.
use Rattle.std.specs.Prelude.{ℕ, ◌+◌, ◌-◌, eqb, length, Bool, true, false, ◌&&◌, List, None, Option, Some, ℤ}
use Rattle.text_keyline.specs.Keylines.{value_in, below}
use Rattle.value_number.specs.Number.{number_of}
use Rattle.times_sheet.specs.declared.Part.{Part}
use Rattle.times_sheet.specs.declared.Which.TheVariants.{StartUp, Ramp}
use Rattle.times_sheet.specs.declared.Which.{Which}
use Rattle.text.specs.Bytes.{bytes, is, any, same, starts, first_of}

abbrev pub if_number : Option ℤ → Bool
if_number (Some v) = true
if_number None = false

abbrev pub is_number : List ℕ → Bool
is_number t = if_number (number_of t)

-- the first line of a text begins with the key and has its LF
abbrev pub is_line : List ℕ → List ℕ → Bool
is_line key s = starts key s && any (is 10) s

unfoldable pub unit_line : List ℕ → List ℕ → Bool
unit_line unit s = is_line (bytes "unit=") s && same unit (value_in (bytes "unit=") s)

unfoldable pub number_line : List ℕ → List ℕ → Bool
number_line key s = is_line key s && is_number (value_in key s)

-- the two lines of numbers, and nothing after them
unfoldable pub good_numbers : List ℕ → Bool
good_numbers t = number_line (bytes "avviamento=") t && number_line (bytes "rampa=") (below t) && eqb (length (below (below t))) 0

-- THE DEFINITION: a sheet is good, and the unit's
unfoldable pub is_for : List ℕ → List ℕ → Bool
is_for unit s = unit_line unit s && good_numbers (below s)

-- ---- the part of a good sheet s that holds a time's number

-- after the n bytes of the key, in the line at which the rest t of the sheet begins
abbrev pub after_key : ℕ → List ℕ → List ℕ → Part
after_key n s t = record { from = length s - length t + n; to = length s - length t + first_of 10 t }

unfoldable pub sheet_part : Which → List ℕ → Part
sheet_part StartUp s = after_key 11 s (below s)
sheet_part Ramp s = after_key 6 s (below (below s))
