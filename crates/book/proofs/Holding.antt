-- What the tally of a book tells of it. Assumes nothing.
use Rattle.std.specs.Prelude.{None, Option, Some}
use Prim.Native.Nat.{ℕ, ◌≤◌}
use Rattle.book.proofs.Formed.{formed_tells}
use Rattle.book.proofs.Sizes.{Sized}
use Rattle.book.specs.Places.{shelf, formed_unit, true_panel, formed_book, tally_of}
use Rattle.book.specs.declared.Book.{Book}
use Rattle.book_order.specs.Orders.{number, next_end}
use Rattle.book_places.proofs.Leading.{leading_long, kept_leading, places_leading, rising_leading}
use Rattle.book_places.specs.Places.{packed, formed_from, leading, counted, count_in}
use Rattle.book_places.specs.declared.Count.{Count}
use Rattle.book_shelf.specs.Shelf.{Rising}
use Rattle.text.proofs.Tests.{by_test, or_parts}
use borrow.Author.Tests.{not-true, not-false}
use lib.Dec.{eqb}
use lib.ListN.{length, take}
use lib.Seq.{length-take-le}
use mathlib.Core.Bool.{Bool, true, false, not, ◌&&◌, ◌||◌}
use mathlib.Core.Path.{◌≡◌, refl, sym, ap, ◌∙◌}
use native.Mathlib.Omega.{arith}

-- ---- the answers of tally

-- one of two is not so
neither : (a b : Bool) → (not a || not b) ≡ true → a && b ≡ false
neither true b e = not-true b e
neither false b e = refl

-- `f` says whether the unit is good
module _ (b : Book) (f : Bool) (tested : f ≡ formed_unit b.size b.unit) where
  pub tally_malformed : not f ≡ true → None ≡ tally_of b
  unfolding tally_of formed_book
  tally_malformed e = rw (sym tested ∙ not-true f e)

  -- for a good unit it is what the places hold, if the two numbers are theirs
  module _ (good : not f ≡ false) (z : Option Count) (told : z ≡ count_in b.floor b.orders) where
    u : formed_unit b.size b.unit ≡ true
    u = sym tested ∙ not-false f good

    places_malformed : formed_from b.floor 0 b.orders ≡ false → None ≡ tally_of b
    unfolding tally_of formed_book
    places_malformed e = rw (u, e)

    abbrev count : ℕ
    count = leading b.floor 0 b.orders

    module _ (e : formed_from b.floor 0 b.orders ≡ true) where
      shelved : (shelf b).orders ≡ take count b.orders
      unfolding shelf
      shelved = kept_leading b.floor 0 b.orders e

      many : length (shelf b).orders ≡ count
      many = ap length shelved ∙ length-take-le count b.orders (leading_long b.floor 0 b.orders)

      soon : next_end (shelf b).orders ≡ next_end (take count b.orders)
      soon = ap next_end shelved

      is_count : z ≡ counted count (next_end (take count b.orders))
      unfolding count_in
      is_count = told ∙ rw e

      -- and a count is one only
      same_count : (k : Count) → z ≡ Some k → (k.held ≡ count) × (k.next ≡ next_end (take count b.orders))
      same_count k h =
          let q : k ≡ record { held = count; next = next_end (take count b.orders) } = cc (sym h ∙ is_count) in
          (ap (λ (y : Count). y.held) q, ap (λ (y : Count). y.next) q)

    pub tally_none : z ≡ None → None ≡ tally_of b
    tally_none h = by_test (formed_from b.floor 0 b.orders) (λ e. absurd (cc (sym h ∙ is_count e))) places_malformed

    module _ (k : Count) (h : z ≡ Some k) where
      untrue : not (eqb b.held k.held) || not (eqb b.next k.next) ≡ true → formed_from b.floor 0 b.orders ≡ true → None ≡ tally_of b
      unfolding tally_of formed_book true_panel
      untrue t e =
          let q = same_count e k h in
          rw (u, e, many e ∙ sym q.0, soon e ∙ sym q.1, neither (eqb b.held k.held) (eqb b.next k.next) t)

      pub tally_untrue : not (eqb b.held k.held) || not (eqb b.next k.next) ≡ true → None ≡ tally_of b
      tally_untrue t = by_test (formed_from b.floor 0 b.orders) (untrue t) places_malformed

      it_holds : not (eqb b.held k.held) || not (eqb b.next k.next) ≡ false → formed_from b.floor 0 b.orders ≡ true → Some k.held ≡ tally_of b
      unfolding tally_of formed_book true_panel
      it_holds t e =
          let q = same_count e k h in
          let d = or_parts (not (eqb b.held k.held)) (not (eqb b.next k.next)) t in
          rw (u, e, many e ∙ sym q.0, soon e ∙ sym q.1, not-false (eqb b.held k.held) d.0, not-false (eqb b.next k.next) d.1)

      no_places : formed_from b.floor 0 b.orders ≡ false → ⊥
      unfolding count_in
      no_places e = let q : ◌≡◌ {A = Option Count} (Some k) None = sym h ∙ told ∙ rw e in cc

      pub tally_true : not (eqb b.held k.held) || not (eqb b.next k.next) ≡ false → Some k.held ≡ tally_of b
      tally_true t = by_test (formed_from b.floor 0 b.orders) (it_holds t) (λ e. absurd (no_places e))

-- ---- what the tally tells

-- a book that is not malformed, with its first `count` places filled
pub record Holding (b : Book) (count : ℕ) : Type 0 where
  pub size : Sized b
  pub formed : formed_book b ≡ true
  pub few : count ≤ 96
  pub held : (shelf b).orders ≡ take count b.orders
  pub rising : Rising number 0 (take count b.orders)
  pub places : b.orders ≡ packed (take count b.orders)
  -- the panel's two numbers
  pub panel : (b.held ≡ length (shelf b).orders) × (b.next ≡ next_end (shelf b).orders)

-- the number that is told of it
holds_formed : (b : Book) → formed_book b ≡ true → tally_of b ≡ Some (leading b.floor 0 b.orders)
unfolding tally_of shelf
holds_formed b e =
    let l = b.orders in
    let n = leading b.floor 0 l in
    rw (e, kept_leading b.floor 0 l ((formed_tells b).0 e).places_good) (ap Some (length-take-le n l (leading_long b.floor 0 l)))

holding : (b : Book) → Sized b → formed_book b ≡ true → Holding b (leading b.floor 0 b.orders)
unfolding shelf
holding b s e =
    let f = b.floor in
    let l = b.orders in
    let w = (formed_tells b).0 e in
    record {
      size = s;
      formed = e;
      few = omega (arith, leading_long f 0 l, s.long);
      held = kept_leading f 0 l w.places_good;
      rising = rising_leading f 0 l;
      places = places_leading f 0 l s.long w.places_good;
      panel = (w.held_is, w.next_is);
    }

module _ (b : Book) (y : Option ℕ) (tally : y ≡ tally_of b) where
  pub holds : (count : ℕ) → Sized b → y ≡ Some count → Holding b count
  unfolding tally_of
  holds count s e =
      by_test (formed_book b)
      (λ q. let n : leading b.floor 0 b.orders ≡ count = cc (holds_formed b q, tally, e) in rw n at (holding b s q))
      (λ q. let n : ◌≡◌ {A = Option ℕ} (Some count) None = rw q at (sym e ∙ tally) in absurd (cc))

  -- the arm of every other tally
  pub holds_none : y ≡ None → formed_book b ≡ false
  holds_none h = by_test (formed_book b) (λ q. absurd (cc (h, tally, holds_formed b q))) (λ q. q)
