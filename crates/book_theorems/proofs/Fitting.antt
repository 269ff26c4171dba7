-- The ledgers that a book with its 96 places can hold, and that every call keeps a ledger so. Assumes nothing.
use Prim.Native.Nat.{ℕ, suc, ◌≤◌, ◌<◌}
use Rattle.layout.specs.Layouts.{is_command, is_revocation}
use Rattle.book_places.proofs.Leading.{fits_facts, fits_of}
use Rattle.book_places.specs.Places.{fits_after}
use Rattle.book_source.proofs.Bounds.{revoke_tells}
use Rattle.book_source.proofs.Comes.{comes, names_fit}
use Rattle.book_lists.proofs.Keeping.{length_keep}
use Rattle.book_lists.proofs.Sorting.{length_insert}
use Rattle.book_lists.specs.Keyed.{keep, insert}
use Rattle.book_ledger.proofs.Strikes.{strike_key, strike_end, no_rung, fit, step_keeps}
use Rattle.book_ledger.specs.Calls.{Call, command, revoke, close, ask, Deed, hold, strike, shut, look, deed_of, fit_for, could_ask}
use Rattle.book_ledger.specs.Ledger.{Ledger, fresh, rungs_of, is_full, answer, effect, step}
use Rattle.value_name.specs.Names.{is_unit}
use Rattle.book_order.specs.Messages.{order_of}
use Rattle.book_order.specs.Orders.{name_of, named, number, time_of, past_end, Strike, strike_at, outside, already, crowded, could_come, is_brought}
use Rattle.book_order.specs.declared.Order.{Order}
use Rattle.record.specs.declared.Record.{Record}
use Rattle.book_stretch.proofs.Formed.{none_formed, joined_formed}
use Rattle.book_stretch.specs.Stretches.{lies, used_in, are_none, formed_in, joined}
use Rattle.text.proofs.Tests.{by_test, and_parts, or_parts}
use Rattle.text.specs.Bytes.{any, all}
use Rattle.text.specs.Refusals.{first_number}
use Rattle.layout.specs.declared.Layout.{Layout}
use Rattle.record_check.specs.Validity.{is_valid}
use borrow.Author.Tests.{ltb-true, ltb-false, leb-false, eqb-false, not-false}
use lib.Dec.{leb, ltb}
use lib.ListN.{length, length-map}
use mathlib.Core.Bool.{Bool, true, false, not}
use mathlib.Core.List.{List, [], ◌∷◌, map}
use mathlib.Core.Path.{◌≡◌, refl, ◌∙◌}
use native.Mathlib.Omega.{arith}

-- ---- one order

-- what is struck of it does not tell whether it could come
strike_comes : (s : Strike) (o : Order) → could_come (strike_at s o) ≡ could_come o
unfolding could_come
strike_comes s o = by_test (named s.name o) (λ e. rw e) (λ e. rw e)

-- and after a strike that is not refused for that order it is well formed again
strike_formed : (s : Strike) (o : Order) → s.over.from < s.over.to → outside s o ≡ false → crowded s o ≡ false → formed_in (time_of o) o.struck ≡ true
    → formed_in (time_of (strike_at s o)) (strike_at s o).struck ≡ true
strike_formed s o proper inside few w =
    by_test (named s.name o)
    (λ e.
    let lie : lies s.over (time_of o) ≡ true = not-false (lies s.over (time_of o)) (rw e at inside) in
    let four : length (joined s.over (used_in o.struck)) ≤ 4 = ltb-false 4 (length (joined s.over (used_in o.struck))) (rw e at few) in
    rw e (joined_formed (time_of o) s.over o.struck w proper lie four))
    (λ e. rw e w)

-- ---- orders by ascending number from lo on, each as a book with the floor f may hold it

abbrev pub Fitted : ℕ → ℕ → List Order → Type 0
Fitted f lo [] = Unit {0}
Fitted f lo (o ∷ l) = (fits_after f lo o ≡ true) × Fitted f (suc o.number) l

fitted_lower : (f lo to : ℕ) (l : List Order) → to ≤ lo → Fitted f lo l → Fitted f to l
fitted_lower f lo to [] h g = tt
fitted_lower f lo to (o ∷ l) h g = let p = fits_facts f lo o g.0 in (fits_of f to o (omega (arith, p.0)) p.1 p.2 p.3, g.1)

-- one more, whose number none of them has
fitted_insert : (f lo : ℕ) (o : Order) (l : List Order) → fits_after f lo o ≡ true → any (named (name_of o)) l ≡ false → Fitted f lo l
    → Fitted f lo (insert number o l)
unfolding any
fitted_insert f lo o [] k e g = (k, tt)
fitted_insert f lo o (x ∷ l) k e g =
    let s = or_parts (named (name_of o) x) (any (named (name_of o)) l) e in
    let p = fits_facts f lo o k in
    let q = fits_facts f lo x g.0 in
    by_test (ltb o.number x.number)
    (λ z. rw z (k, (fits_of f (suc o.number) x (ltb-true o.number x.number z) q.1 q.2 q.3, g.1)))
    (λ z. rw z (
      g.0,
      fitted_insert f (suc x.number) o l
          (fits_of f (suc x.number) o (omega (arith, ltb-false o.number x.number z, eqb-false x.number o.number s.0)) p.1 p.2 p.3)
          s.1 g.1,
    ))

-- one of them struck
fitted_strike : (f lo : ℕ) (s : Strike) (l : List Order) → s.over.from < s.over.to → any (outside s) l ≡ false → any (crowded s) l ≡ false → Fitted f lo l
    → Fitted f lo (map (strike_at s) l)
unfolding any
fitted_strike f lo s [] proper i k g = tt
fitted_strike f lo s (x ∷ l) proper i k g =
    let p = fits_facts f lo x g.0 in
    let inside = or_parts (outside s x) (any (outside s) l) i in
    let few = or_parts (crowded s x) (any (crowded s) l) k in (
      fits_of f lo (strike_at s x) (rw (strike_key s x) p.0) (rw (strike_end s x) p.1) (strike_comes s x ∙ p.2)
          (strike_formed s x proper inside.0 few.0 p.3),
      rw (strike_key s x) (fitted_strike f (suc x.number) s l proper inside.1 few.1 g.1),
    )

-- those that end past another floor
fitted_close : (f lo t : ℕ) (l : List Order) → Fitted f lo l → Fitted t lo (keep (past_end t) l)
fitted_close f lo t [] g = tt
fitted_close f lo t (x ∷ l) g =
    let p = fits_facts f lo x g.0 in
    let rest = fitted_close f (suc x.number) t l g.1 in
    by_test (past_end t x)
    (λ z. rw z (fits_of t lo x p.0 (ltb-true t x.end z) p.2 p.3, rest))
    (λ z. rw z (fitted_lower t (suc x.number) lo (keep (past_end t) l) (omega (arith, p.0)) rest))

-- ---- THE INVARIANT

pub record Fits (b : Ledger) : Type 0 where
  pub unit_good : is_unit b.unit ≡ true
  pub orders_fit : Fitted b.floor 0 b.orders
  pub room : length b.orders ≤ 96

pub fits_fresh : (unit : List ℕ) → is_unit unit ≡ true → Fits (fresh unit)
fits_fresh unit e = record { unit_good = e; orders_fit = tt; room = omega arith }

-- a deed that some valid message asks for, and that is not refused
pub fits_deed : (d : Deed) (b : Ledger) → could_ask d ≡ true → first_number (rungs_of (is_full b) d b) ≡ 0 → Fits b → Fits (effect d b)
unfolding is_brought
fits_deed (hold o) b c a g =
    let x = no_rung (leb o.end b.floor) 23 _ refl a in
    let y = no_rung (any (named (name_of o)) b.orders) 22 _ refl x.1 in
    let z = no_rung (is_full b) 24 0 refl y.1 in
    let could = and_parts (could_come o) (are_none o.struck) c in
    record {
      unit_good = g.unit_good;
      orders_fit =
          fitted_insert b.floor 0 o b.orders
          (fits_of b.floor 0 o (omega arith) (leb-false o.end b.floor x.0) could.0 (none_formed (time_of o) o.struck could.1))
          y.0 g.orders_fit;
      room = rw (length_insert number o b.orders) (leb-false 96 (length b.orders) z.0);
    }
fits_deed (strike s) b c a g =
    let w = no_rung (not (any (named s.name) b.orders)) 25 _ refl a in
    let x = no_rung (any (outside s) b.orders) 31 _ refl w.1 in
    let y = no_rung (any (already s) b.orders) 26 _ refl x.1 in
    let z = no_rung (any (crowded s) b.orders) 32 0 refl y.1 in
    record {
      unit_good = g.unit_good;
      orders_fit = fitted_strike b.floor 0 s b.orders ((revoke_tells s).0 c).apart x.0 z.0 g.orders_fit;
      room = rw (length-map b.orders (strike_at s)) g.room;
    }
fits_deed (shut t) b c a g =
    record {
      unit_good = g.unit_good;
      orders_fit = fitted_close b.floor 0 t b.orders g.orders_fit;
      room = omega (arith, length_keep (past_end t) b.orders, g.room);
    }
fits_deed (look t) b c a g = g

-- so is the deed of a call that is accepted
valid_right : (right : Layout → Bool) (unit : List ℕ) (r : Record) → fit_for right unit r ≡ true → (is_valid r ≡ true) × (right r.layout ≡ true)
valid_right right unit r e = let p = and_parts (is_valid r) _ e in (p.0, (and_parts (right r.layout) _ p.1).0)

asked_for : (k : Call) (b : Ledger) → answer k b ≡ 0 → (could_ask (deed_of k) ≡ true) × (first_number (rungs_of (is_full b) (deed_of k) b) ≡ 0)
unfolding is_brought order_of are_none all
asked_for (command r) b a =
    let f = fit is_command b.unit r _ a in
    let v = valid_right is_command b.unit r f.0 in
    (rw (comes r v.0 v.1), f.1)
asked_for (revoke r) b a =
    let f = fit is_revocation b.unit r _ a in
    let v = valid_right is_revocation b.unit r f.0 in
    (names_fit r v.0 v.1, f.1)
asked_for (close t) b a = (refl, a)
asked_for (ask t) b a = (refl, a)

pub fits_step : (k : Call) (b : Ledger) → Fits b → Fits (step k b)
fits_step k b g = step_keeps Fits k b (λ a p. let q = asked_for k b a in fits_deed (deed_of k) b q.0 q.1 p) g
