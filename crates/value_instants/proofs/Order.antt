-- Dates are ordered by their instants and not by their digits: two dates for which these differ, computed.
-- Assumes nothing.
use Rattle.value_date.specs.Date.{leap, days_in, days_of, passed, clock_of, instant_of, before}
use Rattle.value_instants.specs.Order.{summer_quarter, winter_quarter, digits_before}
use mathlib.Core.Bool.{true, false}
use mathlib.Core.Path.{◌≡◌, refl}

pub by_instant_not_digits : (before summer_quarter winter_quarter ≡ true) × (digits_before summer_quarter winter_quarter ≡ false) × (digits_before winter_quarter summer_quarter ≡ true)
unfolding instant_of clock_of passed days_of days_in leap
by_instant_not_digits = (refl, refl, refl)
