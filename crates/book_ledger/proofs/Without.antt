-- A book without the orders of a name: a call that does not name it, and is not refused for want of a place, is answered alike by both books, and they
-- stay so related. Assumes nothing.
use Prim.Native.Nat.{ℕ}
use Rattle.report_brief.specs.Brief.{unit_of}
use Rattle.book_lists.proofs.Keeping.{keep_map, keep_comm, any_keep, length_keep}
use Rattle.book_lists.proofs.Sorting.{keep_insert}
use Rattle.book_lists.specs.Keyed.{keep, Ascending}
use Rattle.layout.specs.Layouts.{is_command, is_revocation}
use Rattle.layout.specs.declared.Layout.{Layout}
use Rattle.book_ledger.proofs.Strikes.{apart, strike_named, ladder, fit, step_unit, ascending_step}
use Rattle.book_ledger.specs.Calls.{Call, command, revoke, close, ask, deed_of, fit_for, names}
use Rattle.book_ledger.specs.Demand.{wants_place}
use Rattle.book_ledger.specs.Ledger.{Ledger, is_full, answer_in, answer, effect, step, run, answers}
use Rattle.book_order.specs.Messages.{order_of, strike_of}
use Rattle.book_order.specs.Orders.{Name, name_of, same_name, named, number, past_end, Strike, strike_at, sticks_out, is_struck, makes_five}
use Rattle.book_order.specs.declared.Order.{Order}
use Rattle.book_stretch.specs.declared.Stretch.{Stretch}
use Rattle.record.specs.declared.Record.{Record}
use Rattle.text.proofs.Tests.{by_test, and_parts, or_parts}
use Rattle.text.specs.Bytes.{any, same}
use Rattle.record_check.specs.Validity.{is_valid}
use borrow.Author.Tests.{lt-leb, leb-false, eqb-true}
use lib.Dec.{eqb, leb}
use lib.ListN.{length}
use mathlib.Core.Bool.{Bool, true, false, not, ◌&&◌, cond, true≢false}
use mathlib.Core.List.{List, [], ◌∷◌}
use mathlib.Core.Path.{◌≡◌, refl, ap}
use native.Mathlib.Omega.{arith}

abbrev pub other : Name → Order → Bool
other n o = not (named n o)

abbrev pub without : Name → Ledger → Ledger
without n b = record { unit = b.unit; floor = b.floor; orders = keep (other n) b.orders }

named_other : (m n : Name) → same_name m n ≡ false → (o : Order) → named m o ≡ true → other n o ≡ true
named_other m n h o e = ap not (apart m n h o e)

-- what is found of the orders of another name
any_other : (m n : Name) → same_name m n ≡ false → (p : Order → Bool) (l : List Order)
    → any (λ o. named m o && p o) (keep (other n) l) ≡ any (λ o. named m o && p o) l
any_other m n h p l = any_keep (λ o. named m o && p o) (other n) (λ o e. named_other m n h o (and_parts (named m o) (p o) e).0) l

pub other_strike : (n : Name) (s : Strike) (o : Order) → other n (strike_at s o) ≡ other n o
other_strike n s o = ap not (strike_named n s o)

-- ---- a list of refusals, rung by rung: the same conditions above, and below them by the rest

rung : (a : Bool) (z x y : ℕ) → wants_place (cond a z x) ≡ false → (wants_place x ≡ false → y ≡ x) → cond a z y ≡ cond a z x
rung true z x y e h = refl
rung false z x y e h = h e

last_rung : (f g : Bool) → (f ≡ false → g ≡ false) → wants_place (cond f 24 0) ≡ false → ◌≡◌ {A = ℕ} (cond g 24 0) (cond f 24 0)
last_rung true g h e = absurd (true≢false e)
last_rung false g h e = rw (h refl)

rungs : (a b c : Bool) (x y : ℕ) → wants_place (ladder a b c x) ≡ false → (a && (b && c) ≡ true → wants_place x ≡ false → y ≡ x)
    → ladder a b c y ≡ ladder a b c x
rungs true true true x y e h = h refl e
rungs true true false x y e h = refl
rungs true false c x y e h = refl
rungs false b c x y e h = refl

-- ---- one call that does not name n and is not refused for want of a place: the same answer, and the books stay so related

-- whatever says that no place is left, f of the one book and g of the other: leaving orders out makes room
pub sim_in : (f g : Bool) → (f ≡ false → g ≡ false) → (n : Name) (k : Call) (b : Ledger) → names b.unit n k ≡ false → wants_place (answer_in f k b) ≡ false
    → answer_in g k (without n b) ≡ answer_in f k b
sim_in f g w n (command r) b h e =
    let m : Name = name_of (order_of r) in
    rungs (is_valid r) (is_command r.layout) (same (unit_of r) b.unit) _ _ e (λ i e₀.
    rw (any_keep (named m) (other n) (named_other m n (rw i at h)) b.orders)
    (rung (leb (order_of r).end b.floor) 23 _ _ e₀ (λ e₁.
    rung (any (named m) b.orders) 22 _ _ e₁ (λ e₂.
    last_rung f g w e₂))))
sim_in f g w n (revoke r) b h e =
    let m : Name = (strike_of r).name in
    let c : Stretch = (strike_of r).over in
    rungs (is_valid r) (is_revocation r.layout) (same (unit_of r) b.unit) _ _ e (λ i e₀.
    let w : same_name m n ≡ false = rw i at h in
    rw (
      any_keep (named m) (other n) (named_other m n w) b.orders,
      any_other m n w (sticks_out c) b.orders,
      any_other m n w (is_struck c) b.orders,
      any_other m n w (makes_five c) b.orders,
    ))
sim_in f g w n (close t) b h e = refl
sim_in f g w n (ask t) b h e = refl

-- of ninety-six places
pub room_left : (n : Name) (b : Ledger) → is_full b ≡ false → is_full (without n b) ≡ false
room_left n b w = lt-leb 96 (length (keep (other n) b.orders)) (omega (arith, leb-false 96 (length b.orders) w, length_keep (other n) b.orders))

pub sim_answer : (n : Name) (k : Call) (b : Ledger) → names b.unit n k ≡ false → wants_place (answer k b) ≡ false
    → answer k (without n b) ≡ answer k b
sim_answer n k b h e = sim_in (is_full b) (is_full (without n b)) (room_left n b) n k b h e

-- an accepted message that does not name n is of another name
pub unnamed : (right : Layout → Bool) (unit : List ℕ) (r : Record) (x : ℕ) (t : Bool) → ladder (is_valid r) (right r.layout) (same (unit_of r) unit) x ≡ 0
    → fit_for right unit r && t ≡ false → t ≡ false
unnamed right unit r x t a h = rw (fit right unit r x a).0 at h

sim_effect : (n : Name) (k : Call) (b : Ledger) → Ascending number b.orders → names b.unit n k ≡ false → answer k b ≡ 0
    → effect (deed_of k) (without n b) ≡ without n (effect (deed_of k) b)
sim_effect n (command r) b s h a =
    rw (keep_insert number (other n) (order_of r) b.orders s, unnamed is_command b.unit r _ (named n (order_of r)) a h)
sim_effect n (revoke r) b s h a = rw (keep_map (other n) (strike_at (strike_of r)) (other_strike n (strike_of r)) b.orders)
sim_effect n (close t) b s h a = rw (keep_comm (other n) (past_end t) b.orders)
sim_effect n (ask t) b s h a = refl

pub sim_step : (n : Name) (k : Call) (b : Ledger) → Ascending number b.orders → names b.unit n k ≡ false → wants_place (answer k b) ≡ false
    → step k (without n b) ≡ without n (step k b)
sim_step n k b s h e =
    rw (sim_answer n k b h e)
    (by_test (eqb (answer k b) 0)
    (λ z. rw z (sim_effect n k b s h (eqb-true (answer k b) 0 z)))
    (λ z. rw z))

-- a run of such calls
pub record Alike (n : Name) (ks : List Call) (b : Ledger) : Type 0 where
  pub same_answers : answers ks (without n b) ≡ answers ks b
  pub same_end : run ks (without n b) ≡ without n (run ks b)

-- no call of a list names n; nor after one of them
abbrev pub Unnamed : Name → List Call → Ledger → Type 0
Unnamed n ks b = any (names b.unit n) ks ≡ false

pub unnamed_on : (n : Name) (k : Call) (ks : List Call) (b : Ledger) → Unnamed n (k ∷ ks) b → (names b.unit n k ≡ false) × Unnamed n ks (step k b)
unfolding any
unnamed_on n k ks b h =
    let p = or_parts (names b.unit n k) (any (names b.unit n) ks) h in
    (p.0, rw (step_unit k b) p.1)

pub sim_run : (n : Name) (ks : List Call) (b : Ledger) → Ascending number b.orders → Unnamed n ks b → any wants_place (answers ks b) ≡ false
    → Alike n ks b
unfolding any
sim_run n [] b s h e = record { same_answers = refl; same_end = refl }
sim_run n (k ∷ ks) b s h e =
    let hs = unnamed_on n k ks b h in
    let es = or_parts (wants_place (answer k b)) (any wants_place (answers ks (step k b))) e in
    let ih : Alike n ks (step k b) = sim_run n ks (step k b) (ascending_step k b s) hs.1 es.1 in
    record {
      same_answers = rw (sim_step n k b s hs.0 es.0, sim_answer n k b hs.0 es.0, ih.same_answers);
      same_end = rw (sim_step n k b s hs.0 es.0, ih.same_end);
    }
