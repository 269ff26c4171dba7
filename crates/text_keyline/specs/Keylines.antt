-- Texts of `key=value` lines: the plan, the program's own lines, the unit sheet, a saved book. Document 01, "Addresses": no blanks, each line ended
-- by LF; a line
-- lacking its LF is bad where it should stand.
use Rattle.std.specs.Prelude.{ℕ, length, drop, ◌&&◌, cond, List, [], ◌∷◌, ◌++◌, None, Option, Some}
use Rattle.value_name.specs.Names.{is_unit, sequence_of}
use Rattle.text.specs.Bytes.{bytes, is, within, any, upto, past, first_of, starts}

-- where the first line of a text ends, at its LF (10): bad unless it begins with the key and has its LF
unfoldable pub line_of : List ℕ → List ℕ → Option ℕ
line_of key s = cond (starts key s && any (is 10) s) (Some (first_of 10 s)) None

-- what stands between the key and the LF, and what follows the LF
abbrev pub value_in : List ℕ → List ℕ → List ℕ
value_in key s = drop (length key) (upto (is 10) s)

abbrev pub below : List ℕ → List ℕ
below s = past (is 10) s

-- a line with its key and its value
abbrev pub line_text : List ℕ → List ℕ → List ℕ
line_text key v = (key ++ v) ++ (10 ∷ [])

-- a whole number from lo to hi, decimal without leading zeros
abbrev pub ranged : ℕ → ℕ → Option ℕ → Option ℕ
ranged lo hi (Some n) = cond (within lo hi n) (Some n) None
ranged lo hi None = None

unfoldable pub whole_in : ℕ → ℕ → List ℕ → Option ℕ
whole_in lo hi s = ranged lo hi (sequence_of s)

-- the number from 1 to most in the first line of a text, after its key
abbrev pub if_line : Option ℕ → Option ℕ → Option ℕ
if_line (Some e) d = d
if_line None d = None

unfoldable pub number_at : List ℕ → ℕ → List ℕ → Option ℕ
number_at key most s = if_line (line_of key s) (whole_in 1 most (value_in key s))

-- the unit in the first line of a text, and where that line ends
abbrev pub if_unit : Option ℕ → List ℕ → Option (List ℕ)
if_unit (Some e) u = cond (is_unit u) (Some u) None
if_unit None u = None

unfoldable pub unit_at : List ℕ → Option (List ℕ)
unit_at s = if_unit (line_of (bytes "unit=") s) (value_in (bytes "unit=") s)

abbrev pub if_named : Option (List ℕ) → List ℕ → Option ℕ
if_named None s = None
if_named (Some u) s = Some (first_of 10 s)

abbrev pub named_to : List ℕ → Option ℕ
named_to s = if_named (unit_at s) s
