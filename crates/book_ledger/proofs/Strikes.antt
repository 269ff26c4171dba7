-- What is left as it was: of an order by a strike, and of a book by a call. Assumes nothing.
use Prim.Native.Nat.{ℕ, ◌≤◌, ◌<◌}
use Rattle.report_brief.specs.Brief.{unit_of}
use Rattle.book_lists.proofs.Sorting.{ascending_keep, ascending_insert, ascending_map}
use Rattle.book_lists.specs.Keyed.{Ascending}
use Rattle.layout.specs.Layouts.{is_command}
use Rattle.layout.specs.declared.Layout.{Layout}
use Rattle.book_ledger.specs.Calls.{Call, command, Deed, hold, strike, shut, look, deed_of, fit_for}
use Rattle.book_ledger.specs.Ledger.{Ledger, fresh, answer, effect, step, run, answers}
use Rattle.book_order.specs.Messages.{order_of}
use Rattle.book_order.specs.Orders.{Name, name_of, same_name, named, number, time_of, live, past_end, Strike, strike_at}
use Rattle.book_order.specs.declared.Order.{Order}
use Rattle.book_stretch.proofs.Joins.{covers_tells, struck_covers}
use Rattle.book_stretch.specs.Stretches.{covers}
use Rattle.record.specs.declared.Record.{Record}
use Rattle.text.proofs.Tests.{by_test, and_parts}
use Rattle.text.specs.Bytes.{any, same}
use Rattle.record_check.specs.Validity.{is_valid}
use borrow.Author.Tests.{lt-ltb, ltb-true, leb-false, eqb-false, eqb-true, eq-eqb}
use lib.Dec.{eqb, leb}
use lib.ListN.{length}
use mathlib.Core.Bool.{Bool, true, false, not, ◌&&◌, ◌||◌, cond, or_comm}
use mathlib.Core.List.{List, [], ◌∷◌, ◌++◌}
use mathlib.Core.Path.{◌≡◌, refl, ap, ◌∙◌}
use native.Mathlib.Omega.{arith}

-- ---- names: two that pass the test are one, and a name passes it with itself

pub same_eq : (m n : Name) → same_name m n ≡ true → m ≡ n
same_eq m n e = λ i. record { number = eqb-true m.number n.number e i }

pub same_refl : (n : Name) → same_name n n ≡ true
same_refl n = eq-eqb n.number n.number refl

-- an order has one name only
pub apart : (m n : Name) → same_name m n ≡ false → (o : Order) → named m o ≡ true → named n o ≡ false
apart m n h o e = ap (λ (k : Name). same_name k n) (same_eq (name_of o) m e) ∙ h

-- ---- strikes

pub strike_name : (s : Strike) (o : Order) → name_of (strike_at s o) ≡ name_of o
strike_name s o = by_test (named s.name o) (λ e. rw e) (λ e. rw e)

pub strike_named : (n : Name) (s : Strike) (o : Order) → named n (strike_at s o) ≡ named n o
strike_named n s o = ap (λ (k : Name). same_name k n) (strike_name s o)

pub strike_key : (s : Strike) (o : Order) → number (strike_at s o) ≡ number o
strike_key s o = by_test (named s.name o) (λ e. rw e) (λ e. rw e)

pub strike_end : (s : Strike) (o : Order) → (strike_at s o).end ≡ o.end
strike_end s o = by_test (named s.name o) (λ e. rw e) (λ e. rw e)

-- an order of another name stays whole
pub strike_other : (s : Strike) (o : Order) → named s.name o ≡ false → strike_at s o ≡ o
strike_other s o e = rw e

-- ---- in force

-- only in its own time
pub live_time : (t : ℕ) (o : Order) → live t o ≡ true → (o.start ≤ t) × (t < o.end)
live_time t o e = (covers_tells t (time_of o)).0 (and_parts (covers t (time_of o)) _ e).0

-- not in b and not in c is in neither
pub in_neither : (a b c : Bool) → (a && not b) && not c ≡ a && not (b || c)
in_neither true true c = refl
in_neither true false c = refl
in_neither false b c = refl

-- an order of that name stays in force exactly outside the stretch
pub struck_exactly : (s : Strike) (o : Order) (t : ℕ) → named s.name o ≡ true → live t (strike_at s o) ≡ live t o && not (covers t s.over)
struck_exactly s o t e =
    let earlier : Bool = any (covers t) o.struck in
    rw (e, struck_covers t s.over o.struck, or_comm (covers t s.over) earlier, in_neither (covers t (time_of o)) earlier (covers t s.over))

-- ---- ends

pub ends_past : (f : ℕ) (o : Order) → leb o.end f ≡ false → past_end f o ≡ true
ends_past f o e = lt-ltb f o.end (leb-false o.end f e)

pub past_earlier : (f t : ℕ) (o : Order) → f ≤ t → past_end t o ≡ true → past_end f o ≡ true
past_earlier f t o h e = lt-ltb f o.end (omega (arith, ltb-true t o.end e))

-- ---- what an accepted call passed

pub no_rung : (a : Bool) (z x : ℕ) → eqb z 0 ≡ false → cond a z x ≡ 0 → (a ≡ false) × (x ≡ 0)
no_rung true z x h e = absurd (eqb-false z 0 h e)
no_rung false z x h e = (refl, e)

-- the refusals for the message itself, and then x
abbrev pub ladder : Bool → Bool → Bool → ℕ → ℕ
ladder a b c x = cond (not a) 12 (cond (not b) 29 (cond (not c) 21 x))

no_rungs : (a b c : Bool) (x : ℕ) → ladder a b c x ≡ 0 → (a && (b && c) ≡ true) × (x ≡ 0)
no_rungs true true true x e = (refl, e)
no_rungs true true false x e = absurd (eqb-false 21 0 refl e)
no_rungs true false c x e = absurd (eqb-false 29 0 refl e)
no_rungs false b c x e = absurd (eqb-false 12 0 refl e)

-- a message that is not refused for itself
pub fit : (right : Layout → Bool) (unit : List ℕ) (r : Record) (x : ℕ) → ladder (is_valid r) (right r.layout) (same (unit_of r) unit) x ≡ 0
    → (fit_for right unit r ≡ true) × (x ≡ 0)
fit right unit r x e = no_rungs (is_valid r) (right r.layout) (same (unit_of r) unit) x e

-- a command that is taken
pub record Takes (r : Record) (b : Ledger) : Type 0 where
  pub fits : fit_for is_command b.unit r ≡ true
  pub ends : leb (order_of r).end b.floor ≡ false
  pub free : any (named (name_of (order_of r))) b.orders ≡ false
  pub room : leb 96 (length b.orders) ≡ false

pub takes : (r : Record) (b : Ledger) → answer (command r) b ≡ 0 → Takes r b
takes r b a =
    let f = fit is_command b.unit r _ a in
    let x = no_rung (leb (order_of r).end b.floor) 23 _ refl f.1 in
    let y = no_rung (any (named (name_of (order_of r))) b.orders) 22 _ refl x.1 in
    let z = no_rung (leb 96 (length b.orders)) 24 0 refl y.1 in
    record { fits = f.0; ends = x.0; free = y.0; room = z.0 }

-- ---- calls

pub accepted_step : (k : Call) (b : Ledger) → answer k b ≡ 0 → step k b ≡ effect (deed_of k) b
accepted_step k b a = ap (λ (n : ℕ). cond (eqb n 0) (effect (deed_of k) b) b) a

-- what an accepted call keeps, every call keeps
pub step_keeps : (P : Ledger → Type 0) (k : Call) (b : Ledger) → (answer k b ≡ 0 → P b → P (effect (deed_of k) b)) → P b → P (step k b)
step_keeps P k b h p = by_test (eqb (answer k b) 0) (λ e. rw e (h (eqb-true (answer k b) 0 e) p)) (λ e. rw e p)

-- the unit stays
effect_unit : (d : Deed) (b : Ledger) → (effect d b).unit ≡ b.unit
effect_unit (hold o) b = refl
effect_unit (strike s) b = refl
effect_unit (shut t) b = refl
effect_unit (look t) b = refl

pub step_unit : (k : Call) (b : Ledger) → (step k b).unit ≡ b.unit
step_unit k b = step_keeps (λ c. c.unit ≡ b.unit) k b (λ a p. effect_unit (deed_of k) b) refl

pub run_unit : (ks : List Call) (b : Ledger) → (run ks b).unit ≡ b.unit
run_unit [] b = refl
run_unit (k ∷ ks) b = run_unit ks (step k b) ∙ step_unit k b

-- the orders stay in order
ascending_effect : (d : Deed) (b : Ledger) → Ascending number b.orders → Ascending number (effect d b).orders
ascending_effect (hold o) b s = ascending_insert number o b.orders s
ascending_effect (strike x) b s = ascending_map number (strike_at x) (strike_key x) b.orders s
ascending_effect (shut t) b s = ascending_keep number (past_end t) b.orders s
ascending_effect (look t) b s = s

pub ascending_step : (k : Call) (b : Ledger) → Ascending number b.orders → Ascending number (step k b).orders
ascending_step k b s = step_keeps (λ c. Ascending number c.orders) k b (λ a. ascending_effect (deed_of k) b) s

pub ascending_from : (ks : List Call) (b : Ledger) → Ascending number b.orders → Ascending number (run ks b).orders
ascending_from [] b s = s
ascending_from (k ∷ ks) b s = ascending_from ks (step k b) (ascending_step k b s)

pub ascending_run : (unit : List ℕ) (ks : List Call) → Ascending number (run ks (fresh unit)).orders
ascending_run unit ks = ascending_from ks (fresh unit) tt

-- ---- runs one after another

pub run_append : (ks js : List Call) (b : Ledger) → run (ks ++ js) b ≡ run js (run ks b)
run_append [] js b = refl
run_append (k ∷ ks) js b = run_append ks js (step k b)

pub answers_append : (ks js : List Call) (b : Ledger) → answers (ks ++ js) b ≡ answers ks b ++ answers js (run ks b)
answers_append [] js b = refl
answers_append (k ∷ ks) js b = ap (λ (l : List ℕ). answer k b ∷ l) (answers_append ks js (step k b))
