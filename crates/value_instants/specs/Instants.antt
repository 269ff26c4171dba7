-- The date that a clock shows, by its letter, and the instants that dates give. Document 01, "Values" (the instant) and "The book of commands" (what
-- no valid CB record gives). Days are counted from the first of 2000, years from 2000.
use Rattle.std.specs.Prelude.{ℕ, zero, suc, ◌+◌, ◌-◌, ◌*◌, ◌/◌, ◌%◌, leb, Bool, true, cond, ◌≡◌}
use Rattle.value_date.specs.Date.{days_of, instant_of}
use Rattle.value_date.specs.declared.Date.{Date}

-- the year in which a day lies, and the first day of a year: four years are 1461 days, the first of them the long one
abbrev pub year_on : ℕ → ℕ
year_on n = 4 * n / 1461

abbrev pub first_day : ℕ → ℕ
first_day y = 365 * y + (y + 3) / 4

-- how many whole months, of the first k, lie in the first p days of a year
unfoldable pub months_in : ℕ → ℕ → ℕ → ℕ
months_in year p zero = 0
months_in year p (suc k) = cond (leb (days_of year (suc k)) p) (suc k) (months_in year p k)

-- the date of the second s of the day that p days of the year 2000 + y precede
unfoldable pub day_date : ℕ → ℕ → ℕ → Bool → Date
day_date y p s legal = record {
  year = 2000 + y;
  month = months_in (2000 + y) p 11 + 1;
  day = p - days_of (2000 + y) (months_in (2000 + y) p 11) + 1;
  hour = s / 3600;
  minute = s / 60 % 60;
  second = s % 60;
  legal = legal;
}

-- the date that clocks show u seconds after their 2000 began
unfoldable pub clock_date : ℕ → Bool → Date
clock_date u legal = day_date (year_on (u / 86400)) (u / 86400 - first_day (year_on (u / 86400))) (u % 86400) legal

-- an instant that a date gives which passes the test ok
pub record Gives (ok : Date → Bool) (t : ℕ) : Type 0 where
  pub date : Date
  pub passes : ok date ≡ true
  pub gives : instant_of date ≡ t
