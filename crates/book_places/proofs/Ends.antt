-- The earlier of two ends, and the next end of the first orders, one by one. Assumes nothing.
use Prim.Native.Nat.{ℕ, ◌+◌, ◌<◌}
use Rattle.book_lists.proofs.Least.{sooner_none, sooner_both, sooner_assoc, least_append}
use Rattle.book_lists.specs.Keyed.{sooner}
use Rattle.book_order.specs.Orders.{next_end}
use Rattle.book_order.specs.declared.Order.{Order}
use Rattle.book_places.specs.Places.{past_order, order_at}
use Rattle.std.specs.List.{fold}
use Rattle.text.proofs.Tests.{by_eq, and_parts}
use borrow.Author.Tests.{ne_eqb, eqb-false, ltb-true, ltb-false, not-true}
use lib.Dec.{eqb, ltb}
use lib.ListN.{length, take}
use lib.Seq.{take-suc}
use mathlib.Core.Bool.{true, false, ◌&&◌, not}
use mathlib.Core.List.{List, [], ◌∷◌}
use mathlib.Core.Path.{◌≡◌, sym, ◌∙◌}
use native.Mathlib.Numerals.{add-one}
use native.Mathlib.Omega.{arith}

-- ---- the answers of sooner, past the test that there is a first one

module _ (a b : ℕ) (some : a ≡ 0 → ⊥) where
  pub second_sooner : not (eqb b 0) && ltb b a ≡ true → b ≡ sooner a b
  second_sooner t =
      let p = and_parts (not (eqb b 0)) (ltb b a) t in
      let k = eqb-false b 0 (not-true (eqb b 0) p.0) in
      rw (sooner_both a b (omega (arith, some)) (omega (arith, k))) (omega (arith, ltb-true b a p.1))

  pub first_sooner : not (eqb b 0) && ltb b a ≡ false → a ≡ sooner a b
  first_sooner t =
      by_eq b 0
      (λ e. rw e (sym (sooner_none a)))
      (λ k. rw (sooner_both a b (omega (arith, some)) (omega (arith, k))) (omega (arith, ltb-false b a (rw (ne_eqb b 0 k) at t))))

-- ---- the loop of count_leading, and next_end

-- one order more
pub next_on : (next later i : ℕ) (l : List Order) → i < length l → next ≡ next_end (take i l) → later ≡ sooner next (order_at i l).end
    → later ≡ next_end (take (i + 1) l)
next_on next later i l h e r =
    let one : List Order = order_at i l ∷ [] in
    rw (r, e, add-one i, take-suc l i past_order h, least_append (λ (o : Order). o.end) (take i l) one, sooner_none (order_at i l).end)

-- one order after another, from a next end on
pub next_fold : (next : ℕ) (l : List Order) → fold (λ (n : ℕ) (o : Order). sooner n o.end) next l ≡ sooner next (next_end l)
next_fold next [] = sym (sooner_none next)
next_fold next (o ∷ l) = next_fold (sooner next o.end) l ∙ sooner_assoc next o.end (next_end l)
