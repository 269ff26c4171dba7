-- Which instants the real dates give: all from 31,615,200 to 3,155,756,399, and no others.
-- Assumes nothing.
use Prim.Native.Nat.{ℕ, suc, ◌+◌, ◌-◌, ◌*◌, ◌/◌, ◌%◌, ◌≤◌, ◌<◌}
use Rattle.value_bounds.specs.Bounds.{first_instant, last_instant}
use Rattle.value_date.proofs.Laws.{real_tells, days_more, ahead_low, ahead_least}
use Rattle.value_date.specs.Date.{days_in, is_real, Real, days_of, passed, hours_ahead, clock_of, instant_of}
use Rattle.value_date.specs.declared.Date.{Date}
use Rattle.value_instants.proofs.Days.{year_length, year_from, year_to, year_is, months_most, months_low, months_high, months_is, days_rise}
use Rattle.value_instants.specs.Instants.{year_on, first_day, months_in, day_date, clock_date, Gives}
use Rattle.text.proofs.Tests.{by_le}
use mathlib.Core.Bool.{Bool, true, false}
use mathlib.Core.Logic.{◌↔◌}
use mathlib.Core.Path.{◌≡◌, refl, sym, ◌∙◌, ap}
use native.Mathlib.Nat.{add-sub_cancel}
use native.Mathlib.Numerals.{add-one}
use native.Mathlib.Omega.{arith}

-- ---- seconds as clocks show them

-- what clocks show at a date, in seconds since their 2000 began
abbrev pub clock : Date → ℕ
clock d = instant_of d + hours_ahead d.legal

-- the day, of those since 2000, and the second of the day
abbrev pub day_number : Date → ℕ
day_number d = first_day (d.year - 2000) + passed d

abbrev pub second_of : Date → ℕ
second_of d = 3600 * d.hour + 60 * d.minute + d.second

module _ (d : Date) (r : Real d) where
  pub second_low : second_of d < 86400
  second_low = omega arith

  year_back : 2000 + (d.year - 2000) ≡ d.year
  year_back = omega arith

  passed_low : passed d < days_of d.year 12
  unfolding passed
  passed_low =
      let m = days_more d.year (d.month - 1) in
      let e : d.month - 1 + 1 ≡ d.month = omega arith in
      omega (arith, rw e at m, days_rise d.year d.month 12 r.month_to)

  pub day_from : 366 ≤ day_number d
  day_from = omega arith

  pub day_to : day_number d < first_day (d.year - 2000 + 1)
  day_to = omega (arith, passed_low, rw year_back at (year_length (d.year - 2000)))

  pub clock_is : clock d ≡ 86400 * day_number d + second_of d
  unfolding instant_of clock_of
  clock_is = omega (arith, ahead_low d.legal)

  pub bounded_real : (first_instant ≤ instant_of d) × (instant_of d ≤ last_instant)
  bounded_real = omega (arith, clock_is, day_from, day_to, second_low, ahead_low d.legal, ahead_least d.legal)

pub bounded : (d : Date) → is_real d ≡ true → (first_instant ≤ instant_of d) × (instant_of d ≤ last_instant)
bounded d e = bounded_real d ((real_tells d).0 e)

-- ---- the date that clocks show

-- a day p of the year 2000 + y: its date is real, and gives it back
module _ (y p s : ℕ) (l : Bool) (from : 1 ≤ y) (to : y ≤ 99) (low : p < days_of (2000 + y) 12) (short : s < 86400) where
  abbrev m : ℕ
  m = months_in (2000 + y) p 11

  month_length : days_of (2000 + y) (m + 1) ≡ days_of (2000 + y) m + days_in (2000 + y) (m + 1)
  month_length = days_more (2000 + y) m

  month_high : p < days_of (2000 + y) (m + 1)
  month_high = rw add-one (months_high (2000 + y) p 11 low)

  day_real : Real (day_date y p s l)
  unfolding day_date
  day_real = omega (arith, months_most (2000 + y) p 11, months_low (2000 + y) p 11, month_length, month_high)

  day_passed : passed (day_date y p s l) ≡ p
  unfolding day_date passed
  day_passed = rw (add-sub_cancel m 1) (omega (arith, months_low (2000 + y) p 11))

  day_seconds : 86400 * (first_day ((day_date y p s l).year - 2000) + p) + second_of (day_date y p s l) ≡ 86400 * (first_day y + p) + s
  unfolding day_date
  day_seconds = omega arith

  day_clock : clock (day_date y p s l) ≡ 86400 * (first_day y + p) + s
  day_clock = rw (clock_is (day_date y p s l) day_real, day_passed) day_seconds

-- the clock's second u, in the years 2001 to 2099: its date is real, and the clock shows u then
module _ (u : ℕ) (l : Bool) (from : 31622400 ≤ u) (to : u < 3155760000) where
  abbrev n : ℕ
  n = u / 86400

  abbrev y : ℕ
  y = year_on n

  year_first : 1 ≤ y
  year_first = omega arith

  year_last : y ≤ 99
  year_last = omega arith

  left_in_year : n - first_day y < days_of (2000 + y) 12
  left_in_year = omega (arith, year_length y, year_to n)

  pub clock_real : Real (clock_date u l)
  unfolding clock_date
  clock_real = day_real y (n - first_day y) (u % 86400) l year_first year_last left_in_year (omega arith)

  pub clock_clock : clock (clock_date u l) ≡ u
  unfolding clock_date
  clock_clock = day_clock y (n - first_day y) (u % 86400) l year_first year_last left_in_year (omega arith) ∙ omega (arith, year_from n)

  pub clock_legal : (clock_date u l).legal ≡ l
  unfolding clock_date day_date
  clock_legal = refl

  pub clock_reached : Gives is_real (u - hours_ahead l)
  clock_reached =
      record { date = clock_date u l; passes = (real_tells (clock_date u l)).1 clock_real; gives = omega (arith, clock_clock, ap hours_ahead clock_legal) }

-- the L of the first hour that only L reaches, and S after it
pub reached : (t : ℕ) → first_instant ≤ t → t ≤ last_instant → Gives is_real t
reached t from to =
    by_le 31618800 t
    (λ h. rw (add-sub_cancel t 3600) at (clock_reached (t + 3600) false (omega arith) (omega arith)))
    (λ h. rw (add-sub_cancel t 7200) at (clock_reached (t + 7200) true (omega arith) (omega arith)))

-- ---- a real date is what clocks show at its instant

-- the day's date, of a real date's parts
module _ (d : Date) (r : Real d) where
  month_back : months_in d.year (passed d) 11 ≡ d.month - 1
  unfolding passed
  month_back =
      let m = days_more d.year (d.month - 1) in
      let e : suc (d.month - 1) ≡ d.month = omega arith in
      let e' : d.month - 1 + 1 ≡ d.month = omega arith in
      months_is d.year (passed d) (d.month - 1) 11 (omega arith) (omega arith) (rw e (omega (arith, rw e' at m)))

  day_back : day_date (d.year - 2000) (passed d) (second_of d) d.legal ≡ d
  unfolding day_date passed
  day_back =
      let day : passed d - days_of d.year (d.month - 1) + 1 ≡ d.day = omega arith in
      let month : d.month - 1 + 1 ≡ d.month = omega arith in
      let hour : second_of d / 3600 ≡ d.hour = omega arith in
      let minute : second_of d / 60 % 60 ≡ d.minute = omega arith in
      let second : second_of d % 60 ≡ d.second = omega arith in
      rw (year_back d r, month_back)
      (λ i. record { year = d.year; month = month i; day = day i; hour = hour i; minute = minute i; second = second i; legal = d.legal })

  -- a real date is the date that clocks show when they show it
  pub clock_back : clock_date (clock d) d.legal ≡ d
  unfolding clock_date
  clock_back =
      let c = clock_is d r in
      let n : clock d / 86400 ≡ day_number d = omega (arith, second_low d r) in
      let s : clock d % 86400 ≡ second_of d = omega (arith, second_low d r) in
      let y : year_on (day_number d) ≡ d.year - 2000 = year_is (d.year - 2000) (day_number d) (omega arith) (day_to d r) in
      let p : day_number d - first_day (d.year - 2000) ≡ passed d = omega arith in
      rw (n, s, y, p) day_back

-- two real dates that give one instant differ in nothing if they agree in the letter
pub real_injective : (d e : Date) → Real d → Real e → d.legal ≡ e.legal → instant_of d ≡ instant_of e → d ≡ e
real_injective d e r q l i =
    sym (clock_back d r) ∙ (λ j. clock_date (i j + hours_ahead (l j)) (l j)) ∙ clock_back e q

-- the instants that real dates give, exactly: what no real date gives is outside these
pub real_exactly : (t : ℕ) → Gives is_real t ↔ ((first_instant ≤ t) × (t ≤ last_instant))
real_exactly t = (λ g. rw g.gives at (bounded g.date g.passes), λ h. reached t h.0 h.1)
