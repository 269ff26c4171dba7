-- The calls on a book, and what is refused for the message alone. Document 01, "The book of commands": a refusal is given exactly when its condition is
-- the first in its list to hold.
use Rattle.std.specs.Prelude.{ℕ, Bool, true, false, not, ◌&&◌, List, ◌∷◌}
use Rattle.report_brief.specs.Brief.{unit_of}
use Rattle.layout.specs.Layouts.{is_command, is_revocation}
use Rattle.layout.specs.declared.Layout.{Layout}
use Rattle.book_order.specs.Messages.{order_of, strike_of}
use Rattle.book_order.specs.Orders.{Name, same_name, name_of, Strike, could_strike, is_brought}
use Rattle.book_order.specs.declared.Order.{Order}
use Rattle.record.specs.declared.Record.{Record}
use Rattle.text.specs.Bytes.{same}
use Rattle.text.specs.Refusals.{Refusal, refusal}
use Rattle.record_check.specs.Validity.{is_valid}

-- a command and a revocation bring a record; close and the question which order is in force name an instant
pub data Call : Type 0 where
  command : Record → Call
  revoke : Record → Call
  close : ℕ → Call
  ask : ℕ → Call

-- 12 the record is invalid, 29 its layout is not one of the call's, 21 it is for another unit; then what follows in the call's list
abbrev pub unfit : (Layout → Bool) → List ℕ → Record → List Refusal → List Refusal
unfit right unit r rest = refusal 12 0 (not (is_valid r)) ∷ refusal 29 0 (not (right r.layout)) ∷ refusal 21 0 (not (same (unit_of r) unit)) ∷ rest

-- a message that a book for the unit does not refuse for itself
abbrev pub fit_for : (Layout → Bool) → List ℕ → Record → Bool
fit_for right unit r = is_valid r && (right r.layout && same (unit_of r) unit)

-- what a call does to the book, once its message is fit: an order is held, one is struck, the time up to t is shut, what is in force at t is looked up
pub data Deed : Type 0 where
  hold : Order → Deed
  strike : Strike → Deed
  shut : ℕ → Deed
  look : ℕ → Deed

abbrev pub deed_of : Call → Deed
deed_of (command r) = hold (order_of r)
deed_of (revoke r) = strike (strike_of r)
deed_of (close t) = shut t
deed_of (ask t) = look t

-- a deed that some valid message asks for
abbrev pub could_ask : Deed → Bool
could_ask (hold o) = is_brought o
could_ask (strike s) = could_strike s
could_ask (shut t) = true
could_ask (look t) = true

-- the refusals for a call's message alone, and then the rest
abbrev pub unfit_of : List ℕ → Call → List Refusal → List Refusal
unfit_of unit (command r) rest = unfit is_command unit r rest
unfit_of unit (revoke r) rest = unfit is_revocation unit r rest
unfit_of unit (close t) rest = rest
unfit_of unit (ask t) rest = rest

-- whether a call on a book for the unit names an order by this name. (A message refused for itself names none)
abbrev pub names : List ℕ → Name → Call → Bool
names unit n (command r) = fit_for is_command unit r && same_name (name_of (order_of r)) n
names unit n (revoke r) = fit_for is_revocation unit r && same_name (strike_of r).name n
names unit n (close t) = false
names unit n (ask t) = false
