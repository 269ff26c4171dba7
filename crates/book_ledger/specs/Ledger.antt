-- The book as document 01 has it: its unit, its floor and the held orders by ascending number; each call's answer, and what it does.
use Rattle.std.specs.Prelude.{ℕ, eqb, leb, ltb, length, Bool, not, cond, List, [], ◌∷◌, map}
use Rattle.book_lists.specs.Keyed.{keep, insert, greatest}
use Rattle.book_ledger.specs.Calls.{Call, command, revoke, Deed, hold, strike, shut, look, deed_of, unfit_of}
use Rattle.book_ledger.specs.Keepers.{Keeper, run as run_of, answers as answers_of, accepted as accepted_of}
use Rattle.book_order.specs.Orders.{number, name_of, named, live, past_end, strike_at, outside, already, crowded}
use Rattle.book_order.specs.declared.Order.{Order}
use Rattle.text.specs.Bytes.{any}
use Rattle.text.specs.Refusals.{Refusal, refusal, first_number}

pub record Ledger : Type 0 where
  pub unit : List ℕ
  pub floor : ℕ
  pub orders : List Order

-- a fresh book
abbrev pub fresh : List ℕ → Ledger
fresh unit = record { unit = unit; floor = 0; orders = [] }

-- what a deed is refused for; `full` says that no place is left
-- hold: 23 its end is at or below the floor, 22 its number is held, 24 no place is left
-- strike: 25 its number is not held; of the order that has it, 31 the stretch is not inside it, 26 it is struck already, 32 it would be a fifth
-- shut: 27 below the floor; look: 28 below the floor
abbrev pub rungs_of : Bool → Deed → Ledger → List Refusal
rungs_of full (hold o) b = refusal 23 0 (leb o.end b.floor) ∷ refusal 22 0 (any (named (name_of o)) b.orders) ∷ refusal 24 0 (full) ∷ []
rungs_of full (strike s) b =
    refusal 25 0 (not (any (named s.name) b.orders))
    ∷ refusal 31 0 (any (outside s) b.orders)
    ∷ refusal 26 0 (any (already s) b.orders)
    ∷ refusal 32 0 (any (crowded s) b.orders)
    ∷ []
rungs_of full (shut t) b = refusal 27 0 (ltb t b.floor) ∷ []
rungs_of full (look t) b = refusal 28 0 (ltb t b.floor) ∷ []

-- ninety-six are held
abbrev pub is_full : Ledger → Bool
is_full b = leb 96 (length b.orders)

-- THE DEFINITION: a call's answer, 0 where it is accepted, and else the refusal's number: 12, 29, 21 for the message alone, and then the deed's
abbrev pub answer_in : Bool → Call → Ledger → ℕ
answer_in full k b = first_number (unfit_of b.unit k (rungs_of full (deed_of k) b))

abbrev pub answer : Call → Ledger → ℕ
answer k b = answer_in (is_full b) k b

-- what an accepted deed does: the order is held; a stretch of it is struck; the floor is t and orders with end ≤ t go; nothing
abbrev pub effect : Deed → Ledger → Ledger
effect (hold o) b = record { unit = b.unit; floor = b.floor; orders = insert number o b.orders }
effect (strike s) b = record { unit = b.unit; floor = b.floor; orders = map (strike_at s) b.orders }
effect (shut t) b = record { unit = b.unit; floor = t; orders = keep (past_end t) b.orders }
effect (look t) b = b

-- a refusal changes nothing
abbrev pub step : Call → Ledger → Ledger
step k b = cond (eqb (answer k b) 0) (effect (deed_of k) b) b

-- the order in force at t, of those with start ≤ t < end and t outside all that is struck of them the greatest number: one more than that, or 0 for none
abbrev pub in_force : ℕ → Ledger → ℕ
in_force t b = greatest number (live t) b.orders

-- ledgers, as keepers of a book
abbrev pub ledgers : Keeper
ledgers =
    record {
      State = Ledger;
      Call = Call;
      command = command;
      revoke = revoke;
      answer = answer;
      step = step;
      floor = λ (b : Ledger). b.floor;
      Found = ℕ;
      in_force = in_force;
    }

abbrev pub run : List Call → Ledger → Ledger
run ks b = run_of ledgers ks b

abbrev pub answers : List Call → Ledger → List ℕ
answers ks b = answers_of ledgers ks b

abbrev pub accepted : List Call → Ledger → List Call
accepted ks b = accepted_of ledgers ks b
