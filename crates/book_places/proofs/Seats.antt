-- The seat of a number: found one by one, and what it tells of rising orders. Assumes nothing.
use Rattle.std.specs.Prelude.{Ok, Err}
use Prim.Native.Nat.{ℕ, ◌+◌, ◌≤◌, ◌<◌}
use Rattle.book_lists.specs.Keyed.{insert}
use Rattle.book_order.specs.Orders.{Name, number, named, empty_order}
use Rattle.book_order.specs.declared.Order.{Order}
use Rattle.book_places.specs.Places.{packed, past_order, order_at, Seat, seat_by, seat_in}
use Rattle.book_shelf.proofs.Placing.{put_packed}
use Rattle.book_shelf.proofs.Ranks.{held_short, seat_within as rank_within, seat_inside as rank_inside}
use Rattle.book_shelf.proofs.Ranks.{ranked_here, held_here, ranked_all, held_none, any_ranked, held_ranked}
use Rattle.book_shelf.proofs.Replacing.{change_packed}
use Rattle.book_shelf.specs.Shelf.{between, put_in, replaced, Rising, rank_of, is_held_at}
use Rattle.text.specs.Bytes.{any}
use borrow.Author.Tests.{lt-ltb, eq-eqb, ne_eqb}
use lib.Dec.{eqb}
use lib.ListN.{length, take, length-take}
use lib.Seq.{get_or-take}
use mathlib.Core.Bool.{Bool, true, false}
use mathlib.Core.List.{List, map}
use mathlib.Core.Path.{◌≡◌, refl, sym, ap, ◌∙◌}
use native.Mathlib.Omega.{arith}

-- ---- the answers of seat_of

module _ (n from to i : ℕ) (l : List Order) (so_far : i + rank_of number n (between i to l) ≡ from + rank_of number n (between from to l)) where
  seat_here : to ≤ length l → i < to → n ≤ (order_at i l).number → record { at = i; held = eqb (order_at i l).number n } ≡ seat_in n from to l
  unfolding seat_in
  seat_here c h e j =
      record {
        at = ranked_here number past_order n from to l i so_far c h e j;
        held = held_here number past_order n from to l i so_far c h e j;
      }

  pub seat_held : to ≤ length l → i < to → n ≤ (order_at i l).number → (order_at i l).number ≡ n → seat_by (Ok i) ≡ seat_in n from to l
  seat_held c h e q = rw (eq-eqb (order_at i l).number n q) at (seat_here c h e)

  pub seat_free : to ≤ length l → i < to → n ≤ (order_at i l).number → ((order_at i l).number ≡ n → ⊥) → seat_by (Err i) ≡ seat_in n from to l
  seat_free c h e q = rw (ne_eqb (order_at i l).number n q) at (seat_here c h e)

  pub seat_none : to ≤ i → record { at = i; held = false } ≡ seat_in n from to l
  unfolding seat_in
  seat_none h j =
      record {
        at = ranked_all number past_order n from to l i so_far h j;
        held = held_none number past_order n from to l i so_far h j;
      }

-- ---- where a seat lies

module _ (n from to : ℕ) (l : List Order) (s : Seat) (seated : s ≡ seat_in n from to l) where
  pub seat_within : from ≤ to → s.at ≤ to
  unfolding seat_in
  seat_within h = rw seated (rank_within number past_order n from to l h)

  -- one that an order has is a place of an order
  pub seat_inside : s.held ≡ true → s.at < to
  unfolding seat_in
  seat_inside t = rw seated (rank_inside number past_order n from to l (ap (λ (x : Seat). x.held) (sym seated) ∙ t))

-- ---- a seat among the first `count` orders

module _ (count : ℕ) (l : List Order) where
  pub first_at : (n : ℕ) → (seat_in n 0 count l).at ≡ rank_of number n (take count l)
  unfolding seat_in
  first_at n = omega arith

  pub first_held : (n : ℕ) → (seat_in n 0 count l).held ≡ is_held_at number past_order n (rank_of number n (take count l)) (take count l)
  unfolding seat_in
  first_held n = refl

  -- what a call asks of rising orders is what the seat of its number tells
  module _ (r : Rising number 0 (take count l)) where
    pub held_seat : (n : Name) → any (named n) (take count l) ≡ (seat_in n.number 0 count l).held
    held_seat n = held_ranked number past_order n.number 0 (take count l) r ∙ sym (first_held n.number)

    -- a test that only an order by the number n can pass, where one has it
    pub any_seat : (p : Order → Bool) (n : ℕ) → ((o : Order) → eqb o.number n ≡ false → p o ≡ false) → (seat_in n 0 count l).held ≡ true
        → any p (take count l) ≡ p (order_at (seat_in n 0 count l).at l)
    any_seat p n only t =
        let at : ℕ = rank_of number n (take count l) in
        let h : at < length (take count l) = held_short number past_order n at (take count l) (sym (first_held n) ∙ t) in
        any_ranked number past_order p n only 0 (take count l) r
        ∙ rw (lt-ltb at (length (take count l)) h, get_or-take count l at past_order (omega (arith, h, length-take count l)), first_at n)

  -- ---- the places changed at the seat of a number

  module _ (long : length l ≡ 96) (places : l ≡ packed (take count l)) where
    pub put_seat : (o : Order) → count < 96 → (seat_in o.number 0 count l).held ≡ false
        → put_in (seat_in o.number 0 count l).at count o l ≡ packed (insert number o (take count l))
    put_seat o c t =
        rw (first_at o.number) (put_packed number past_order empty_order 96 count o l long places c (sym (first_held o.number) ∙ t))

    -- a change of the order by the number n alone
    pub change_seat : (n : ℕ) (f : Order → Order) → ((o : Order) → eqb o.number n ≡ false → f o ≡ o) → count ≤ 96 → Rising number 0 (take count l)
        → (seat_in n 0 count l).held ≡ true → replaced (seat_in n 0 count l).at (f (order_at (seat_in n 0 count l).at l)) l ≡ packed (map f (take count l))
    change_seat n f others c r t =
        rw (first_at n) (change_packed number past_order n f others empty_order 96 0 count l long places c r (sym (first_held n) ∙ t))
