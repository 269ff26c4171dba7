-- An order whose number, layout, instants and variations are together what a valid CB record gives. Document 01, "The book of commands". A strike whose
-- number, start and end are together what a valid RC record gives. Document 02, A6.
use Rattle.layout.specs.Layouts.{is_command, is_revocation}
use Rattle.book_order.specs.Messages.{order_of, strike_of}
use Rattle.book_order.specs.Orders.{Strike}
use Rattle.book_order.specs.declared.Order.{Order}
use Rattle.record.specs.declared.Record.{Record}
use Rattle.record_valid.specs.Valid.{Valid}
use Rattle.book_stretch.specs.Stretches.{in_four}
use Rattle.std.specs.Prelude.{true, [], ◌≡◌}

-- the order as its command brought it, before anything of it was struck
abbrev pub as_brought : Order → Order
as_brought o =
    record {
      number = o.number;
      start = o.start;
      end = o.end;
      first = o.first;
      second = o.second;
      layout = o.layout;
      struck = in_four [];
    }

pub record Given (o : Order) : Type 0 where
  pub command : Record
  pub valid : Valid command
  pub is_command_so : is_command command.layout ≡ true
  pub gives : order_of command ≡ as_brought o

-- a strike that some valid RC record asks for
pub record GivenStrike (s : Strike) : Type 0 where
  pub revocation : Record
  pub valid : Valid revocation
  pub is_revocation_so : is_revocation revocation.layout ≡ true
  pub gives : strike_of revocation ≡ s
