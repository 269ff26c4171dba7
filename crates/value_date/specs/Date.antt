-- Dates `DD-MM-YYYY HH:MI:SS X` and their instants. Document 01, "Values": years 2001 to 2099, a real calendar day, hours 0 to 23,
-- minutes and seconds 0 to 59, X is L or S; the record keeps all of these.
use Rattle.std.specs.Prelude.{ℕ, zero, suc, ◌+◌, ◌-◌, ◌*◌, ◌/◌, ◌%◌, ◌≤◌, eqb, leb, ltb, get_or, take, drop, Bool, true, false, ◌&&◌, ◌||◌, cond, List, [], ◌∷◌, ◌++◌, None, Option, Some}
use Rattle.value_date.specs.declared.Date.{Date}
use Rattle.text.specs.Bytes.{bytes, within, is_digit}
use Rattle.text.specs.Digits.{number_in, digits_text}

-- ---- reading

-- what a byte of a shape stands for: '0' (48) for any digit, 'L' (76) for L or S (83), any other for itself
unfoldable pub fits_byte : ℕ → ℕ → Bool
fits_byte p b = cond (eqb p 48) (is_digit b) (cond (eqb p 76) (eqb b 76 || eqb b 83) (eqb b p))

unfoldable pub shaped : List ℕ → List ℕ → Bool
shaped [] [] = true
shaped [] (b ∷ s) = false
shaped (p ∷ ps) [] = false
shaped (p ∷ ps) (b ∷ s) = fits_byte p b && shaped ps s

abbrev pub date_shape : List ℕ
date_shape = bytes "00-00-0000 00:00:00 L"

-- the number that the n digits at a place write
abbrev pub field_at : List ℕ → ℕ → ℕ → ℕ
field_at s at n = number_in (take n (drop at s))

unfoldable pub date_parts : List ℕ → Date
date_parts s = record {
  year = field_at s 6 4;
  month = field_at s 3 2;
  day = field_at s 0 2;
  hour = field_at s 11 2;
  minute = field_at s 14 2;
  second = field_at s 17 2;
  legal = eqb (get_or s 20 0) 76;
}

-- ---- the calendar

-- of the years 2001 to 2099 every fourth is a leap year
unfoldable pub leap : ℕ → Bool
leap y = eqb (y % 4) 0

unfoldable pub days_in : ℕ → ℕ → ℕ
days_in y m = cond (eqb m 2) (cond (leap y) 29 28) (cond (eqb m 4 || eqb m 6 || eqb m 9 || eqb m 11) 30 31)

unfoldable pub is_real : Date → Bool
is_real d =
    within 2001 2099 d.year && within 1 12 d.month && within 1 (days_in d.year d.month) d.day
    && leb d.hour 23 && leb d.minute 59 && leb d.second 59

-- the same as bounds
pub record Real (d : Date) : Type 0 where
  pub year_from : 2001 ≤ d.year
  pub year_to : d.year ≤ 2099
  pub month_from : 1 ≤ d.month
  pub month_to : d.month ≤ 12
  pub day_from : 1 ≤ d.day
  pub day_to : d.day ≤ days_in d.year d.month
  pub hour_to : d.hour ≤ 23
  pub minute_to : d.minute ≤ 59
  pub second_to : d.second ≤ 59

unfoldable pub date_of : List ℕ → Option Date
date_of s = cond (shaped date_shape s && is_real (date_parts s)) (Some (date_parts s)) None

-- ---- the instant: seconds since 2000 began in UTC

-- the days of the first m months of a year
unfoldable pub days_of : ℕ → ℕ → ℕ
days_of y zero = 0
days_of y (suc m) = days_of y m + days_in y (suc m)

-- days passed in the year
unfoldable pub passed : Date → ℕ
passed d = days_of d.year (d.month - 1) + (d.day - 1)

-- L is two hours ahead of UTC, S one
abbrev pub hours_ahead : Bool → ℕ
hours_ahead true = 7200
hours_ahead false = 3600

-- seconds that the clock has shown since its 2000 began, whatever its letter
unfoldable pub clock_of : Date → ℕ
clock_of d =
    86400 * (365 * (d.year - 2000) + (d.year - 1997) / 4 + passed d) + (3600 * d.hour + 60 * d.minute + d.second)

unfoldable pub instant_of : Date → ℕ
instant_of d = clock_of d - hours_ahead d.legal

-- dates are ordered by their instants, never by their digits
abbrev pub before : Date → Date → Bool
before a b = ltb (instant_of a) (instant_of b)

-- ---- writing

unfoldable pub day_text : Date → List ℕ
day_text d = digits_text 2 d.day ++ (45 ∷ digits_text 2 d.month) ++ (45 ∷ digits_text 4 d.year)

unfoldable pub time_text : Date → List ℕ
time_text d = (32 ∷ digits_text 2 d.hour) ++ (58 ∷ digits_text 2 d.minute) ++ (58 ∷ digits_text 2 d.second)

abbrev pub letter : Bool → ℕ
letter true = 76
letter false = 83

unfoldable pub letter_text : Bool → List ℕ
letter_text legal = 32 ∷ letter legal ∷ []

unfoldable pub date_text : Date → List ℕ
date_text d = day_text d ++ time_text d ++ letter_text d.legal
