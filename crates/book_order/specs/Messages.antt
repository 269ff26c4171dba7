-- What the book takes of a message. Document 01, "The book of commands": a held order has number, layout, start, end (mFRR: TINI1, TFIN2), variations
-- (mFRR: its one, then 0) and what of it is struck; a revocation names a number. Document 02, A6: it strikes from its start to its end.
use Rattle.value_ask.specs.Values.{instant_in, amount_in, count_in}
use Rattle.report_brief.specs.Brief.{message_number, start_of, end_of}
use Rattle.layout.specs.FieldNumbers.{first_variation_no, second_variation_no, mfrr_variation_no, sequence_no}
use Rattle.layout.specs.declared.Layout.{Layout}
use Rattle.layout.specs.declared.Layout.TheVariants.{Market, Mfrr, Revocation, Generic, Exclusion, Limitation, Secondary, VoltVar, Rejection, Reserve}
use Rattle.book_order.specs.Orders.{Strike}
use Rattle.book_order.specs.declared.Order.{Order}
use Rattle.record.specs.Records.{field_of}
use Rattle.record.specs.declared.Cell.{Cell}
use Rattle.record.specs.declared.Record.{Record}
use Rattle.book_stretch.specs.Stretches.{stretch, in_four}
use Rattle.std.specs.Prelude.{ℤ, pos, List, []}

-- ---- the variations: mFRR has one, and 0 stands for the other

abbrev pub first_variation : Layout → List Cell → ℤ
first_variation Market cells = amount_in (field_of cells first_variation_no)
first_variation Mfrr cells = amount_in (field_of cells mfrr_variation_no)
first_variation Revocation cells = pos 0
first_variation Generic cells = pos 0
first_variation Exclusion cells = pos 0
first_variation Limitation cells = pos 0
first_variation Secondary cells = pos 0
first_variation VoltVar cells = pos 0
first_variation Rejection cells = pos 0
first_variation Reserve cells = pos 0

abbrev pub second_variation : Layout → List Cell → ℤ
second_variation Market cells = amount_in (field_of cells second_variation_no)
second_variation Mfrr cells = pos 0
second_variation Revocation cells = pos 0
second_variation Generic cells = pos 0
second_variation Exclusion cells = pos 0
second_variation Limitation cells = pos 0
second_variation Secondary cells = pos 0
second_variation VoltVar cells = pos 0
second_variation Rejection cells = pos 0
second_variation Reserve cells = pos 0

-- THE DEFINITION: the order that a command brings
unfoldable pub order_of : Record → Order
order_of r =
    record {
      number = message_number r;
      layout = r.layout;
      start = instant_in (start_of r);
      end = instant_in (end_of r);
      first = first_variation r.layout r.cells;
      second = second_variation r.layout r.cells;
      struck = in_four [];
    }

-- what a revocation says: `Sequenza Comando`, and its start and end
unfoldable pub strike_of : Record → Strike
strike_of r =
    record {
      name = record { number = count_in (field_of r.cells sequence_no) };
      over = stretch (instant_in (start_of r)) (instant_in (end_of r));
    }
