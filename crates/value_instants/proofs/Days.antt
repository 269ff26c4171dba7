-- Laws of days, months and years: the year and the month in which a day lies.
-- Assumes nothing.
use Prim.Native.Nat.{ℕ, zero, suc, ◌+◌, ◌%◌, ◌≤◌, ◌<◌}
use Rattle.value_date.specs.Date.{leap, days_in, days_of}
use Rattle.value_instants.specs.Instants.{year_on, first_day, months_in}
use Rattle.text.proofs.Tests.{by_le, by_eq}
use borrow.Author.Tests.{le-leb, lt-leb, eq-eqb, ne_eqb}
use mathlib.Core.Path.{◌≡◌}
use native.Mathlib.Omega.{arith}

-- ---- years

-- a year ends where the next begins
pub year_length : (y : ℕ) → first_day y + days_of (2000 + y) 12 ≡ first_day (y + 1)
unfolding days_of days_in leap
year_length y = by_eq ((2000 + y) % 4) 0 (λ e. rw (eq-eqb ((2000 + y) % 4) 0 e) (omega arith)) (λ n. rw (ne_eqb ((2000 + y) % 4) 0 n) (omega arith))

pub year_from : (n : ℕ) → first_day (year_on n) ≤ n
year_from n = omega arith

pub year_to : (n : ℕ) → n < first_day (year_on n + 1)
year_to n = omega arith

pub year_is : (y n : ℕ) → first_day y ≤ n → n < first_day (y + 1) → year_on n ≡ y
year_is y n h k = omega arith

-- ---- months

pub days_rise : (year m k : ℕ) → m ≤ k → days_of year m ≤ days_of year k
unfolding days_of
days_rise year m zero h = let q : m ≡ 0 = omega arith in rw q (omega arith)
days_rise year m (suc k) h = by_le m k (λ l. omega (arith, days_rise year m k l)) (λ l. let q : m ≡ suc k = omega arith in rw q (omega arith))

module _ (year p : ℕ) where
  -- what it finds: the months are over, and the next is not
  pub months_most : (k : ℕ) → months_in year p k ≤ k
  unfolding months_in
  months_most zero = omega arith
  months_most (suc k) = by_le (days_of year (suc k)) p (λ h. rw (le-leb _ _ h) (omega arith)) (λ h. rw (lt-leb _ _ h) (omega (arith, months_most k)))

  pub months_low : (k : ℕ) → days_of year (months_in year p k) ≤ p
  unfolding months_in days_of
  months_low zero = omega arith
  months_low (suc k) = by_le (days_of year (suc k)) p (λ h. rw (le-leb _ _ h) h) (λ h. rw (lt-leb _ _ h) (months_low k))

  pub months_high : (k : ℕ) → p < days_of year (suc k) → p < days_of year (suc (months_in year p k))
  unfolding months_in
  months_high zero to = to
  months_high (suc k) to = by_le (days_of year (suc k)) p (λ h. rw (le-leb _ _ h) to) (λ h. rw (lt-leb _ _ h) (months_high k h))

  -- and it finds the only ones
  pub months_is : (m k : ℕ) → m ≤ k → days_of year m ≤ p → p < days_of year (suc m) → months_in year p k ≡ m
  unfolding months_in
  months_is m zero h from to = omega arith
  months_is m (suc k) h from to =
      by_le (days_of year (suc k)) p
      (λ e. rw (le-leb _ _ e) (by_le m k (λ l. absurd (omega (arith, days_rise year (suc m) (suc k) (omega arith)))) (λ l. omega arith)))
      (
      λ e.
      let low : m ≤ k = by_le m k (λ l. l) (λ l. let z : m ≡ suc k = omega arith in absurd (omega (arith, rw z at from))) in
      rw (lt-leb _ _ e) (months_is m k low from to)
      )
