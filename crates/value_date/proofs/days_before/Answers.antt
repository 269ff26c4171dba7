use Prim.Native.Nat.{◌≤◌}
use Rattle.value_date.proofs.Laws.{days_after, days_fit}
use Rattle.value_date.specs.Date.{leap, days_in, days_of}
use Rattle.text.proofs.Tables.{above}
use mathlib.Core.Path.{sym, ap}
use native.Mathlib.Omega.{arith}
use Rattle.value_date.proofs.days_before.Goals as goal

pub overflow_sub-result : goal.overflow_sub-result
overflow_sub-result c =
    let past : 12 ≤ c.args.months = above 0 12 c.args.months c.in_default.in_default-own.rest (omega arith) in
    omega (arith, past)

pub overflow_mul-result : goal.overflow_mul-result
overflow_mul-result c =
    let past : 12 ≤ c.args.months = above 0 12 c.args.months c.in_default.in_default-own.rest (omega arith) in
    record { fits = (days_fit _ past c.ranges.months.fits).0 }

pub overflow_add-result : goal.overflow_add-result
overflow_add-result c =
    let past : 12 ≤ c.args.months = above 0 12 c.args.months c.in_default.in_default-own.rest (omega arith) in
    record { fits = (days_fit _ past c.ranges.months.fits).1 }

pub returns-in-0 : goal.returns-in-0
unfolding days_in days_of leap
returns-in-0 c = ap (days_of 2001) (sym c.in-0.is)

pub returns-in-1 : goal.returns-in-1
unfolding days_in days_of leap
returns-in-1 c = ap (days_of 2001) (sym c.in-1.is)

pub returns-in-2 : goal.returns-in-2
unfolding days_in days_of leap
returns-in-2 c = ap (days_of 2001) (sym c.in-2.is)

pub returns-in-3 : goal.returns-in-3
unfolding days_in days_of leap
returns-in-3 c = ap (days_of 2001) (sym c.in-3.is)

pub returns-in-4 : goal.returns-in-4
unfolding days_in days_of leap
returns-in-4 c = ap (days_of 2001) (sym c.in-4.is)

pub returns-in-5 : goal.returns-in-5
unfolding days_in days_of leap
returns-in-5 c = ap (days_of 2001) (sym c.in-5.is)

pub returns-in-6 : goal.returns-in-6
unfolding days_in days_of leap
returns-in-6 c = ap (days_of 2001) (sym c.in-6.is)

pub returns-in-7 : goal.returns-in-7
unfolding days_in days_of leap
returns-in-7 c = ap (days_of 2001) (sym c.in-7.is)

pub returns-in-8 : goal.returns-in-8
unfolding days_in days_of leap
returns-in-8 c = ap (days_of 2001) (sym c.in-8.is)

pub returns-in-9 : goal.returns-in-9
unfolding days_in days_of leap
returns-in-9 c = ap (days_of 2001) (sym c.in-9.is)

pub returns-in-10 : goal.returns-in-10
unfolding days_in days_of leap
returns-in-10 c = ap (days_of 2001) (sym c.in-10.is)

pub returns-in-11 : goal.returns-in-11
unfolding days_in days_of leap
returns-in-11 c = ap (days_of 2001) (sym c.in-11.is)

pub returns-in_default : goal.returns-in_default
unfolding days_in days_of leap
returns-in_default c =
    let past : 12 ≤ c.args.months = above 0 12 c.args.months c.in_default.in_default-own.rest (omega arith) in
    days_after 2001 c.args.months past
