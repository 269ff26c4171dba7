-- Demand 3's first half: the book that a run leaves is the one that the accepted calls define. Assumes nothing.
use Prim.Native.Nat.{ℕ, suc, ◌≤◌, ◌<◌}
use Rattle.book_lists.proofs.Keeping.{All, all_weaker, keep_append, keep_map, keep_keep}
use Rattle.book_lists.proofs.Sorting.{sort_snoc, sort_map, sort_keep, any_sort, length_sort, greatest_sort, greatest_bounds, greatest_is}
use Rattle.book_lists.specs.Keyed.{keep, sort_onto, greatest}
use Rattle.book_ledger.proofs.Strikes.{strike_key, strike_end, ends_past, past_earlier, no_rung, takes, run_unit}
use Rattle.book_ledger.specs.Calls.{Call, command, revoke, close, ask, Deed, hold, strike, shut, look, deed_of}
use Rattle.book_ledger.specs.History.{floor_by, floor_from, strike_by, marked_by, brings, takings, held_by, ledger_of}
use Rattle.book_ledger.specs.Ledger.{Ledger, fresh, answer, effect, in_force, run, accepted}
use Rattle.book_order.specs.Messages.{order_of, strike_of}
use Rattle.book_order.specs.Orders.{name_of, number, named, live, past_end, Strike, strike_at, outside, already, crowded}
use Rattle.book_order.specs.declared.Order.{Order}
use Rattle.text.proofs.Tests.{by_test}
use Rattle.text.specs.Bytes.{any}
use borrow.Author.Tests.{ltb-false, eqb-true}
use lib.Dec.{eqb, ltb}
use mathlib.Core.Bool.{true, false}
use mathlib.Core.List.{List, [], ◌∷◌, ◌++◌, map, map-id, append-nil, append_assoc, Memᴰ}
use mathlib.Core.Path.{◌≡◌, refl, sym, ap, ◌∙◌, subst}
use native.Mathlib.Nat.{zero-add}
use native.Mathlib.Omega.{arith}

-- ---- one call more at the end of a history

floor_snoc : (f : ℕ) (h : List Deed) (k : Deed) → floor_from f (h ++ (k ∷ [])) ≡ floor_by k (floor_from f h)
floor_snoc f [] k = refl
floor_snoc f (j ∷ h) k = floor_snoc (floor_by j f) h k

marked_snoc : (h : List Deed) (k : Deed) (o : Order) → marked_by (h ++ (k ∷ [])) o ≡ strike_by k (marked_by h o)
marked_snoc [] k o = refl
marked_snoc (j ∷ h) k o = marked_snoc h k (strike_by j o)

takings_snoc : (h : List Deed) (k : Deed) → takings (h ++ (k ∷ [])) ≡ map (strike_by k) (takings h) ++ brings k
takings_snoc [] (hold p) = refl
takings_snoc [] (strike s) = refl
takings_snoc [] (shut t) = refl
takings_snoc [] (look t) = refl
takings_snoc (hold p ∷ h) k = rw (marked_snoc h k p, takings_snoc h k)
takings_snoc (strike s ∷ h) k = takings_snoc h k
takings_snoc (shut t ∷ h) k = takings_snoc h k
takings_snoc (look t ∷ h) k = takings_snoc h k

-- what is held then
held_snoc : (h : List Deed) (k : Deed) → held_by (h ++ (k ∷ []))
    ≡ keep (past_end (floor_by k (floor_from 0 h))) (map (strike_by k) (takings h)) ++ keep (past_end (floor_by k (floor_from 0 h))) (brings k)
held_snoc h k =
    rw (floor_snoc 0 h k, takings_snoc h k)
    (keep_append (past_end (floor_by k (floor_from 0 h))) (map (strike_by k) (takings h)) (brings k))

-- ---- the book of a history

pub record Agrees (h : List Deed) (b : Ledger) : Type 0 where
  pub floors : b.floor ≡ floor_from 0 h
  pub helds : b.orders ≡ sort_onto number [] (held_by h)

agrees_effect : (h : List Deed) (k : Call) (b : Ledger) → Agrees h b → answer k b ≡ 0 → Agrees (h ++ (deed_of k ∷ [])) (effect (deed_of k) b)
agrees_effect h (command r) b g a =
    let fits : past_end (floor_from 0 h) (order_of r) ≡ true = ends_past (floor_from 0 h) (order_of r) (rw g.floors at (takes r b a).ends) in
    record {
      floors = rw (floor_snoc 0 h (hold (order_of r))) g.floors;
      helds = rw (held_snoc h (hold (order_of r)), map-id (takings h), fits, g.helds) (sym (sort_snoc number [] (held_by h) (order_of r)));
    }
agrees_effect h (revoke r) b g a =
    let s = strike_of r in
    record {
      floors = rw (floor_snoc 0 h (strike (strike_of r))) g.floors;
      helds =
          rw (held_snoc h (strike (strike_of r)), append-nil, g.helds, keep_map (past_end (floor_from 0 h)) (strike_at s) (λ x. rw (strike_end s x)) (takings h))
          (sym (sort_map number (strike_at s) (strike_key s) [] (held_by h)));
    }
agrees_effect h (close t) b g a =
    let early : ltb t b.floor ≡ false = (no_rung (ltb t b.floor) 27 _ refl a).0 in
    let le : floor_from 0 h ≤ t = omega (arith, ltb-false t b.floor early, g.floors) in
    record {
      floors = sym (floor_snoc 0 h (shut t));
      helds =
          rw (held_snoc h (shut t), map-id (takings h), append-nil, g.helds)
          (sym (sort_keep number (past_end t) [] (held_by h) tt)
          ∙ ap (sort_onto number []) (keep_keep (past_end t) (past_end (floor_from 0 h)) (λ x e. past_earlier (floor_from 0 h) t x le e) (takings h)));
    }
agrees_effect h (ask t) b g a =
    record {
      floors = rw (floor_snoc 0 h (look t)) g.floors;
      helds = rw (held_snoc h (look t), map-id (takings h), append-nil) g.helds;
    }

-- from any book that agrees with a history
pub agrees_run : (h : List Deed) (ks : List Call) (b : Ledger) → Agrees h b → Agrees (h ++ map deed_of (accepted ks b)) (run ks b)
agrees_run h [] b g = rw append-nil g
agrees_run h (k ∷ ks) b g =
    by_test (eqb (answer k b) 0)
    (λ e. rw e (subst (λ (m : List Deed). Agrees m (run ks (effect (deed_of k) b)))
    (append_assoc h (deed_of k ∷ []) (map deed_of (accepted ks (effect (deed_of k) b))))
    (agrees_run (h ++ (deed_of k ∷ [])) ks (effect (deed_of k) b) (agrees_effect h k b g (eqb-true (answer k b) 0 e)))))
    (λ e. rw e (agrees_run h ks b g))

-- the answers do not depend on how the orders stand
answer_sort : (k : Call) (unit : List ℕ) (f : ℕ) (l : List Order)
    → answer k (record { unit = unit; floor = f; orders = sort_onto number [] l }) ≡ answer k (record { unit = unit; floor = f; orders = l })
unfolding any
answer_sort (command r) unit f l = rw (any_sort number (named (name_of (order_of r))) [] l, length_sort number [] l, zero-add)
answer_sort (revoke r) unit f l =
    let s : Strike = strike_of r in
    rw (
      any_sort number (named s.name) [] l,
      any_sort number (outside s) [] l,
      any_sort number (already s) [] l,
      any_sort number (crowded s) [] l,
    )
answer_sort (close t) unit f l = refl
answer_sort (ask t) unit f l = refl

-- ---- THE THEOREM: after any calls on a fresh book, each call is answered as the accepted calls define, and the order in force is theirs

module _ (unit : List ℕ) (ks : List Call) where
  pub agreement : Agrees (map deed_of (accepted ks (fresh unit))) (run ks (fresh unit))
  agreement = agrees_run [] ks (fresh unit) (record { floors = refl; helds = refl })

  pub same_answer : (k : Call) → answer k (run ks (fresh unit)) ≡ answer k (ledger_of unit (map deed_of (accepted ks (fresh unit))))
  same_answer k =
      let h : List Deed = map deed_of (accepted ks (fresh unit)) in
      ap (answer k) (λ i. record { unit = run_unit ks (fresh unit) i; floor = agreement.floors i; orders = agreement.helds i })
      ∙ answer_sort k unit (floor_from 0 h) (held_by h)

  pub same_in_force : (t : ℕ) → in_force t (run ks (fresh unit)) ≡ in_force t (ledger_of unit (map deed_of (accepted ks (fresh unit))))
  same_in_force t = rw (agreement.helds, greatest_sort number (live t) [] (held_by (map deed_of (accepted ks (fresh unit))))) (omega arith)

  -- and what that is: of the orders held, with start ≤ t < end and not struck there, the one with the greatest number
  pub in_force_none : (t : ℕ) → in_force t (run ks (fresh unit)) ≡ 0 → All (λ o. live t o ≡ true → ⊥) (held_by (map deed_of (accepted ks (fresh unit))))
  in_force_none t e =
      let l : List Order = held_by (map deed_of (accepted ks (fresh unit))) in
      all_weaker (λ o. live t o ≡ true → number o < 0) (λ o. live t o ≡ true → ⊥) (λ o h i. let lt : number o < 0 = h i in omega arith) l
      (greatest_bounds number (live t) 0 l (omega (arith, same_in_force t, e)))

  pub in_force_some : (t n : ℕ) → in_force t (run ks (fresh unit)) ≡ suc n
      → ((o : Order) × Memᴰ o (held_by (map deed_of (accepted ks (fresh unit)))) × (live t o ≡ true) × (number o ≡ n))
      × All (λ o. live t o ≡ true → number o ≤ n) (held_by (map deed_of (accepted ks (fresh unit))))
  in_force_some t n e =
      let l : List Order = held_by (map deed_of (accepted ks (fresh unit))) in
      let q : greatest number (live t) l ≡ suc n = sym (same_in_force t) ∙ e in (
        greatest_is number (live t) n l q,
        all_weaker (λ o. live t o ≡ true → number o < suc n) (λ o. live t o ≡ true → number o ≤ n)
            (λ o h i. let lt : number o < suc n = h i in omega arith) l
            (greatest_bounds number (live t) (suc n) l (omega (arith, q))),
      )
