-- Every case of the table reads as it has to: one theorem, by computation. Assumes nothing.
use Rattle.value_date.specs.Date.{fits_byte, shaped, date_parts, leap, days_in, is_real, date_of, days_of, passed, clock_of, instant_of}
use Rattle.value_number.specs.Number.{scaled, fraction_of, joined_digits, unsigned_of, plus, minus, number_of}
use Rattle.demands_cases.specs.Table.{Case, case_answer, cases}
use Rattle.text.specs.Bytes.{bytes, upto, all}
use Rattle.text.specs.Digits.{number_from, digits_of}
use mathlib.Core.List.{map}
use mathlib.Core.Path.{◌≡◌, refl}

pub all_read : map (λ (c : Case). case_answer c.sort (bytes c.text)) cases ≡ map (λ (c : Case). c.reads) cases
unfolding upto all number_from digits_of scaled fraction_of joined_digits unsigned_of plus minus number_of fits_byte shaped date_parts leap days_in is_real date_of days_of passed clock_of instant_of case_answer
all_read = refl
