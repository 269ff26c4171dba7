-- Decimal digits: the number that they write, and the digits that write a number. Shown once, over the number of digits.
use Rattle.std.specs.Prelude.{ℕ, zero, suc, ◌+◌, ◌-◌, ◌*◌, ◌/◌, ◌%◌, ◌^◌, min, leb, ltb, length, take, ◌&&◌, cond, List, [], ◌∷◌, None, Option, Some}
use Rattle.text.specs.Bytes.{all, is_digit, run_of}
use Rattle.text.specs.declared.digits.Led.{Led}

-- the number that digits write, first digit first, after those that already wrote acc
unfoldable pub number_from : ℕ → List ℕ → ℕ
number_from acc [] = acc
number_from acc (b ∷ s) = number_from (acc * 10 + (b - 48)) s

abbrev pub number_in : List ℕ → ℕ
number_in s = number_from 0 s

-- 1 to most digits and nothing else
unfoldable pub digits_of : ℕ → List ℕ → Option ℕ
digits_of most s = cond (leb 1 (length s) && leb (length s) most && all is_digit s) (Some (number_in s)) None

-- the digits that a text begins with, at most `most` of them: how many, and the number that they write
abbrev pub lead_of : ℕ → List ℕ → Led
lead_of most s = record { count = min most (run_of is_digit s); value = number_in (take (min most (run_of is_digit s)) s) }

-- the last k digits of n, first digit first
unfoldable pub digits_text : ℕ → ℕ → List ℕ
digits_text zero n = []
digits_text (suc k) n = (48 + n / 10 ^ k % 10) ∷ digits_text k n

-- n without leading zeros, of at most k + 1 digits
unfoldable pub whole_text : ℕ → ℕ → List ℕ
whole_text zero n = digits_text 1 n
whole_text (suc k) n = cond (ltb n (10 ^ suc k)) (whole_text k n) (digits_text (suc (suc k)) n)
