-- What a message names: itself, its unit, and the command that it revokes. Document 01, "Values".
use Rattle.std.specs.Prelude.{ℕ, eqb, ltb, length, get_or, take, drop, Bool, ◌&&◌, ◌||◌, cond, List, ◌++◌, None, Option}
use Rattle.value_name.specs.Types.{code_of}
use Rattle.value_name.specs.declared.MessageType.{MessageType}
use Rattle.text.specs.Bytes.{same, all, is, within, is_digit, is_upper, is_lower, bytes}
use Rattle.text.specs.Digits.{digits_of, digits_text, whole_text}

-- ---- identifier: the message's own type code, `-`, ten digits

abbrev pub prefix_of : MessageType → List ℕ
prefix_of t = code_of t ++ bytes "-"

-- k digits and nothing else
unfoldable pub exactly : ℕ → List ℕ → Option ℕ
exactly k s = cond (eqb (length s) k) (digits_of k s) None

unfoldable pub identifier_of : MessageType → List ℕ → Option ℕ
identifier_of t s = cond (same (take 3 s) (prefix_of t)) (exactly 10 (drop 3 s)) None

unfoldable pub identifier_text : MessageType → ℕ → List ℕ
identifier_text t n = prefix_of t ++ digits_text 10 n

-- ---- unit: 1 to 16 letters, digits or `_` (95)

abbrev pub is_unit_byte : ℕ → Bool
is_unit_byte b = is_digit b || is_upper b || is 95 b || is_lower b

unfoldable pub is_unit : List ℕ → Bool
is_unit s = within 1 16 (length s) && all is_unit_byte s

-- ---- sequence: 1 to 10 digits, no leading zero (48) unless it is `0`

unfoldable pub sequence_of : List ℕ → Option ℕ
sequence_of s = cond (ltb 1 (length s) && is 48 (get_or s 0 0)) None (digits_of 10 s)

abbrev pub sequence_text : ℕ → List ℕ
sequence_text n = whole_text 9 n
