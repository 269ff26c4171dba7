-- What is held, from the list of what the accepted calls did alone, oldest first. Document 01, "The book of commands": what is held is defined from the
-- list of accepted calls. No book is run here, and nothing is kept in order.
use Rattle.std.specs.Prelude.{ℕ, Bool, true, false, not, ◌&&◌, List, [], ◌∷◌, ◌++◌, map}
use Rattle.book_lists.specs.Keyed.{keep, greatest}
use Rattle.book_ledger.specs.Calls.{Deed, hold, strike, shut, look}
use Rattle.book_ledger.specs.Ledger.{Ledger}
use Rattle.book_order.specs.Orders.{Name, same_name, name_of, number, live, past_end, strike_at}
use Rattle.book_order.specs.declared.Order.{Order}
use Rattle.book_stretch.specs.Stretches.{covers}
use Rattle.text.specs.Bytes.{any}

-- the floor: the last close, or what it was before
abbrev pub floor_by : Deed → ℕ → ℕ
floor_by (hold p) f = f
floor_by (strike s) f = f
floor_by (shut t) f = t
floor_by (look t) f = f

abbrev pub floor_from : ℕ → List Deed → ℕ
floor_from f [] = f
floor_from f (k ∷ h) = floor_from (floor_by k f) h

-- what one accepted call makes of an order that was taken before it
abbrev pub strike_by : Deed → Order → Order
strike_by (hold p) o = o
strike_by (strike s) o = strike_at s o
strike_by (shut t) o = o
strike_by (look t) o = o

-- an order after the calls that followed its command
abbrev pub marked_by : List Deed → Order → Order
marked_by [] o = o
marked_by (k ∷ h) o = marked_by h (strike_by k o)

-- the order that a call brings
abbrev pub brings : Deed → List Order
brings (hold p) = p ∷ []
brings (strike s) = []
brings (shut t) = []
brings (look t) = []

-- every order that a command brought, as the calls after it left it
abbrev pub takings : List Deed → List Order
takings [] = []
takings (k ∷ h) = map (marked_by h) (brings k) ++ takings h

-- THE DEFINITION: those of them that no close has reached
abbrev pub held_by : List Deed → List Order
held_by h = keep (past_end (floor_from 0 h)) (takings h)

abbrev pub ledger_of : List ℕ → List Deed → Ledger
ledger_of unit h = record { unit = unit; floor = floor_from 0 h; orders = held_by h }

-- ---- the same from the accepted calls alone, with no stretch joined to another. Document 02, A6: "A revocation shall strike from its start to its end"

-- a call that strikes the instant t of the order of that name
abbrev pub strikes_at : ℕ → Name → Deed → Bool
strikes_at t n (hold p) = false
strikes_at t n (strike s) = same_name n s.name && covers t s.over
strikes_at t n (shut u) = false
strikes_at t n (look u) = false

-- an order that runs at t, as its command brought it: t is of its time, and no call after its command struck it there
abbrev pub runs_at : ℕ → List Deed → Order → Bool
runs_at t h o = live t o && not (any (strikes_at t (name_of o)) h)

-- every order that does
abbrev pub running_at : ℕ → List Deed → List Order
running_at t [] = []
running_at t (k ∷ h) = keep (runs_at t h) (brings k) ++ running_at t h

-- THE DEFINITION: the greatest number among them, one more than that, or 0 for none
abbrev pub in_force_by : ℕ → List Deed → ℕ
in_force_by t h = greatest number (λ o. true) (running_at t h)
