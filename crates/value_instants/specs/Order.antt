-- Two dates of the night in which clocks go back, and the order that dates do not have: by their digits.
-- Document 01, "Values" (the instant) and "The book of commands" (what no valid CB record gives).
use Rattle.std.specs.Prelude.{ℕ, eqb, ltb, Bool, true, false, cond}
use Rattle.value_date.specs.declared.Date.{Date}

-- 29-10-2023 02:45:00 L and, half an hour later, 29-10-2023 02:15:00 S
abbrev pub summer_quarter : Date
summer_quarter = record { year = 2023; month = 10; day = 29; hour = 2; minute = 45; second = 0; legal = true }

abbrev pub winter_quarter : Date
winter_quarter = record { year = 2023; month = 10; day = 29; hour = 2; minute = 15; second = 0; legal = false }

-- a number is less, or it is the same and what follows decides
abbrev less : ℕ → ℕ → Bool → Bool
less a b rest = cond (eqb a b) rest (ltb a b)

-- year, month, day, hour, minute and second in this order, and not the letter
abbrev pub digits_before : Date → Date → Bool
digits_before a b =
    less a.year b.year
    (less a.month b.month
    (less a.day b.day
    (less a.hour b.hour
    (less a.minute b.minute
    (ltb a.second b.second)))))
