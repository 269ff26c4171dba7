use Rattle.value_date.proofs.Laws.{shape_length, shape_asks}
use Rattle.value_date.specs.Date.{date_shape, date_parts}
use lib.Dec.{lit≤}
use mathlib.Core.Path.{refl}
use native.Mathlib.Omega.{arith}
use Rattle.value_date.proofs.fields.Goals as goal

-- At each field's place the shape has digits.
pub pair-day-requires : goal.pair-day-requires
pair-day-requires c = shape_asks _ 0 2 c.requires (lit≤ tt) refl

pub pair-month-requires : goal.pair-month-requires
pair-month-requires c = shape_asks _ 3 2 c.requires (lit≤ tt) refl

pub field-year-requires : goal.field-year-requires
field-year-requires c = let a = shape_asks _ 6 4 c.requires (lit≤ tt) refl in (lit≤ tt, lit≤ tt, a.0, a.1)

pub pair-hour-requires : goal.pair-hour-requires
pair-hour-requires c = shape_asks _ 11 2 c.requires (lit≤ tt) refl

pub pair-minute-requires : goal.pair-minute-requires
pair-minute-requires c = shape_asks _ 14 2 c.requires (lit≤ tt) refl

pub pair-second-requires : goal.pair-second-requires
pair-second-requires c = shape_asks _ 17 2 c.requires (lit≤ tt) refl

pub bounds-s-20 : goal.bounds-s-20
bounds-s-20 c =
    omega (arith, shape_length date_shape c.args.s.now c.requires)

pub returns : goal.returns
unfolding date_parts
returns c =
    rw (
      c.pair-day.ensures,
      c.pair-month.ensures,
      c.field-year.ensures.0,
      c.pair-hour.ensures,
      c.pair-minute.ensures,
      c.pair-second.ensures,
    )
