-- For an order that passes the test, a valid command that gives it: for mFRR, one whose first ramp lasts a second. Assumes nothing.
use Prim.Native.Nat.{ℕ, ◌+◌, ◌-◌, ◌<◌}
use Rattle.report_brief.specs.Brief.{message_number, end_of}
use Rattle.value_date.specs.Date.{is_real, instant_of}
use Rattle.book_source.proofs.Bounds.{by_command, fits_command, market_tells, mfrr_tells, Bounds, come_tells}
use Rattle.book_source.proofs.Commands.{market_command, mfrr_command, market_valid, mfrr_valid}
use Rattle.book_source.specs.Given.{Given}
use Rattle.value_instants.proofs.Reach.{reached}
use Rattle.value_instants.specs.Instants.{Gives}
use Rattle.layout.specs.declared.Layout.{Layout}
use Rattle.layout.specs.declared.Layout.TheVariants.{Market, Mfrr}
use Rattle.book_order.specs.Messages.{order_of}
use Rattle.book_order.specs.Orders.{fits_layout, could_come}
use Rattle.book_order.specs.declared.Order.{Order}
use Rattle.book_stretch.specs.Stretches.{in_four}
use Rattle.record.specs.Records.{cells_of, field_of}
use Rattle.record_check.proofs.Decides.{valid_tells}
use borrow.Author.Tests.{lt-ltb}
use lib.Dec.{ltb}
use mathlib.Core.Bool.{true}
use mathlib.Core.List.{[]}
use mathlib.Core.Path.{◌≡◌, refl, sym}
use native.Mathlib.Omega.{arith}

-- dates of two instants, in their order
pub before : {s t : ℕ} (a : Gives is_real s) (b : Gives is_real t) → s < t → ltb (instant_of a.date) (instant_of b.date) ≡ true
before a b h = rw (a.gives, b.gives) (lt-ltb _ _ h)

module _ (o : Order) (b : Bounds o) where
  abbrev from : Gives is_real o.start
  from = reached o.start b.start_from b.start_to

  abbrev to : Gives is_real o.end
  to = reached o.end b.end_from b.end_to

  low : ltb o.number 10000000000 ≡ true
  low = lt-ltb o.number 10000000000 (omega (arith, b.number_to))

  abbrev Fit : Layout → Type 0
  Fit l = fits_layout l (o.end - o.start) o.second ≡ true

  -- the order, of a layout
  abbrev of : Layout → Order
  of l =
      record {
        number = o.number;
        start = o.start;
        end = o.end;
        first = o.first;
        second = o.second;
        layout = l;
        struck = o.struck;
      }

  market_given : Fit Market → Given (of Market)
  unfolding order_of message_number end_of cells_of field_of
  market_given f =
      let p = (market_tells (o.end - o.start) o.second).0 f in
      let made = market_command o.number from.date to.date o.first o.second in
      let valid = market_valid o.number from.date to.date o.first low from.passes to.passes b.first_amount o.second p.1 in
      record {
        command = made;
        valid = (valid_tells made).0 (valid (before from to (omega (arith, p.0))));
        is_command_so = refl;
        gives = λ i. record {
          number = o.number;
          start = from.gives i;
          end = to.gives i;
          first = o.first;
          second = o.second;
          layout = Market;
          struck = in_four [];
        };
      }

  mfrr_given : Fit Mfrr → Given (of Mfrr)
  unfolding order_of message_number end_of cells_of field_of
  mfrr_given f =
      let p = (mfrr_tells (o.end - o.start) o.second).0 f in
      let up = reached (o.start + 1) (omega (arith, b.start_from)) (omega (arith, b.end_to, p.0)) in
      let made = mfrr_command o.number from.date up.date to.date o.first in
      let valid = mfrr_valid o.number from.date to.date o.first low from.passes to.passes b.first_amount up.date up.passes in
      record {
        command = made;
        valid = (valid_tells made).0 (valid (before from up (omega arith)) (before up to (omega (arith, p.0))));
        is_command_so = refl;
        gives = λ i. record {
          number = o.number;
          start = from.gives i;
          end = to.gives i;
          first = o.first;
          second = sym p.1 i;
          layout = Mfrr;
          struck = in_four [];
        };
      }

pub witness : (o : Order) → could_come o ≡ true → Given o
witness o e =
    let b = (come_tells o).0 e in
    by_command (λ (l : Layout). Fit o b l → Given (of o b l)) (market_given o b) (mfrr_given o b) o.layout
    (fits_command o.layout (o.end - o.start) o.second b.fits) b.fits
