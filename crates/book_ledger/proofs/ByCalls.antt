-- What is in force, from the accepted calls alone: an order is struck where one of the calls after its command strikes it, with no stretch joined to
-- another. Assumes nothing.
use Prim.Native.Nat.{ℕ, ◌≤◌}
use Rattle.book_lists.proofs.Keeping.{all_of}
use Rattle.book_lists.proofs.Sorting.{greatest_keep}
use Rattle.book_lists.specs.Keyed.{greatest}
use Rattle.book_ledger.proofs.Strikes.{strike_name, strike_key, strike_other, live_time, in_neither, struck_exactly}
use Rattle.book_ledger.specs.Calls.{Deed, hold, strike, shut, look}
use Rattle.book_ledger.specs.History.{floor_from, marked_by, takings, held_by, strikes_at, runs_at, in_force_by}
use Rattle.book_order.specs.Orders.{name_of, named, number, live, past_end}
use Rattle.book_order.specs.declared.Order.{Order}
use Rattle.book_stretch.specs.Stretches.{covers}
use Rattle.text.proofs.Tests.{by_test}
use Rattle.text.specs.Bytes.{any}
use borrow.Author.Tests.{lt-ltb}
use mathlib.Core.Bool.{true, and-true}
use mathlib.Core.List.{List, [], ◌∷◌}
use mathlib.Core.Path.{◌≡◌, refl, sym, ◌∙◌}
use native.Mathlib.Omega.{arith}

-- ---- an order, as the calls after its command left it

marked_key : (h : List Deed) (o : Order) → number (marked_by h o) ≡ number o
marked_key [] o = refl
marked_key (hold p ∷ h) o = marked_key h o
marked_key (strike s ∷ h) o = rw (marked_key h, strike_key s o)
marked_key (shut t ∷ h) o = marked_key h o
marked_key (look t ∷ h) o = marked_key h o

-- it is in force where it was, and none of them struck it
pub marked_live : (t : ℕ) (h : List Deed) (o : Order) → live t (marked_by h o) ≡ runs_at t h o
unfolding any
marked_live t [] o = sym (and-true (live t o))
marked_live t (hold p ∷ h) o = marked_live t h o
marked_live t (strike s ∷ h) o =
    rw (marked_live t h, strike_name s o)
    (by_test (named s.name o)
    (λ e. rw (struck_exactly s o t e, e) (in_neither (live t o) (covers t s.over) (any (strikes_at t (name_of o)) h)))
    (λ e. rw (strike_other s o e, e)))
marked_live t (shut u ∷ h) o = marked_live t h o
marked_live t (look u ∷ h) o = marked_live t h o

-- ---- all of them

running : (t : ℕ) (h : List Deed) → greatest number (live t) (takings h) ≡ in_force_by t h
running t [] = refl
running t (hold p ∷ h) =
    rw (marked_live t h p, marked_key h p, running t h)
    (by_test (runs_at t h p) (λ e. rw e) (λ e. rw e (omega arith)))
running t (strike s ∷ h) = running t h
running t (shut u ∷ h) = running t h
running t (look u ∷ h) = running t h

-- THE LAW: no close up to t takes away what is in force at t
pub by_calls : (t : ℕ) (h : List Deed) → floor_from 0 h ≤ t → greatest number (live t) (held_by h) ≡ in_force_by t h
by_calls t h f =
    greatest_keep number (live t) (past_end (floor_from 0 h)) (takings h)
    (all_of (λ o. live t o ≡ true → past_end (floor_from 0 h) o ≡ true)
    (λ o e. lt-ltb (floor_from 0 h) o.end (omega (arith, live_time t o e))) (takings h))
    ∙ running t h
