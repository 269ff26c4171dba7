-- The orders in the first places: how many they are, that they rise by number, and what is left after them. Assumes nothing.
use Rattle.std.specs.Prelude.{None}
use Prim.Native.Nat.{ℕ, suc, ◌+◌, ◌-◌, ◌≤◌, ◌<◌}
use Rattle.value_bounds.specs.Bounds.{most_number}
use Rattle.book_lists.specs.Keyed.{keep, Ascending}
use Rattle.book_order.proofs.Joined.{three}
use Rattle.book_order.specs.Orders.{number, past_end, next_end, empty_order, time_of, is_empty, could_come, could_hold}
use Rattle.book_order.specs.declared.Order.{Order}
use Rattle.book_places.proofs.Empty.{empty_is, empty_end, empty_dropped}
use Rattle.book_places.specs.Places.{packed, past_order, order_at, fits_after, formed_from, leading, counted, count_in}
use Rattle.book_shelf.proofs.Packing.{all_packed}
use Rattle.book_shelf.proofs.Ranks.{ascending_rising}
use Rattle.book_shelf.specs.Shelf.{Rising}
use Rattle.book_stretch.specs.Stretches.{formed_in}
use Rattle.text.proofs.Cuts.{tail}
use Rattle.text.proofs.Tests.{by_test, and_parts}
use Rattle.text.specs.Bytes.{all}
use borrow.Author.Tests.{le-leb, leb-true, ltb-true, lt-ltb, le-ltb}
use lib.Dec.{leb, ltb}
use lib.ListN.{length, take, drop, drop_of_length-le}
use lib.Seq.{drop-cons}
use mathlib.Core.Bool.{Bool, true, false, ◌&&◌, false≢true}
use mathlib.Core.List.{List, [], ◌∷◌}
use mathlib.Core.Path.{◌≡◌, refl, sym, ap, ◌∙◌}
use native.Mathlib.Numerals.{add-one}
use native.Mathlib.Omega.{arith}

-- ---- an order that fits a book

-- `m` says whether a book may hold it
pub fits_is : (f lo : ℕ) (o : Order) (m : Bool) → m ≡ could_hold o → (leb lo o.number && ltb f o.end) && m ≡ fits_after f lo o
unfolding fits_after
fits_is f lo o m e = rw e (three (leb lo o.number) (ltb f o.end) (could_hold o))

-- it stands after those below lo, and ends past the floor
pub fits_facts : (f lo : ℕ) (o : Order) → fits_after f lo o ≡ true
    → (lo ≤ o.number) × (f < o.end) × (could_come o ≡ true) × (formed_in (time_of o) o.struck ≡ true)
unfolding fits_after
fits_facts f lo o e =
    let p = and_parts (leb lo o.number) (ltb f o.end && could_hold o) e in
    let q = and_parts (ltb f o.end) (could_hold o) p.1 in
    let r = and_parts (could_come o) (formed_in (time_of o) o.struck) q.1 in
    (leb-true lo o.number p.0, ltb-true f o.end q.0, r.0, r.1)

pub fits_of : (f lo : ℕ) (o : Order) → lo ≤ o.number → f < o.end → could_come o ≡ true → formed_in (time_of o) o.struck ≡ true → fits_after f lo o ≡ true
unfolding fits_after
fits_of f lo o h k e w = rw (le-leb lo o.number h, lt-ltb f o.end k, e, w)

-- so it fills its place
pub fits_past : (f lo : ℕ) (o : Order) → fits_after f lo o ≡ true → past_end 0 o ≡ true
fits_past f lo o e = lt-ltb 0 o.end (omega (arith, (fits_facts f lo o e).1))

-- and the number after its own is a number too
pub fits_small : (f lo : ℕ) (o : Order) → fits_after f lo o ≡ true → o.number ≤ most_number
unfolding could_come
fits_small f lo o e = leb-true o.number most_number (and_parts (leb o.number most_number) _ (fits_facts f lo o e).2).0

pub fits_filled : (f lo : ℕ) (o : Order) → fits_after f lo o ≡ true → is_empty o ≡ false
fits_filled f lo o e =
    by_test (is_empty o)
    (λ z. absurd (omega (arith, (fits_facts f lo o e).1, empty_end o z)))
    (λ z. z)

-- what is struck of the orders of a well formed list is well formed
pub formed_struck : (f lo : ℕ) (l : List Order) → formed_from f lo l ≡ true
    → all (λ (o : Order). formed_in (time_of o) o.struck) (keep (past_end 0) l) ≡ true
unfolding all
formed_struck f lo [] e = refl
formed_struck f lo (o ∷ l) e =
    by_test (is_empty o)
    (λ z. rw (le-ltb 0 o.end (omega (arith, empty_end o z)), empty_dropped l (rw z at e)))
    (λ z.
    let p = and_parts (fits_after f lo o) (formed_from f (suc o.number) l) (rw z at e) in
    rw (fits_past f lo o p.0, (fits_facts f lo o p.0).3) (formed_struck f (suc o.number) l p.1))

-- ---- how many

pub leading_long : (f lo : ℕ) (l : List Order) → leading f lo l ≤ length l
unfolding leading
leading_long f lo [] = omega arith
leading_long f lo (o ∷ l) =
    by_test (fits_after f lo o)
    (λ e. rw e (omega (arith, leading_long f (suc o.number) l)))
    (λ e. rw e (omega arith))

-- a list of places is well formed exactly if all after the leading ones are empty
pub formed_leading : (f lo : ℕ) (l : List Order) → formed_from f lo l ≡ all is_empty (drop (leading f lo l) l)
unfolding leading all
formed_leading f lo [] = refl
formed_leading f lo (o ∷ l) =
    by_test (fits_after f lo o)
    (λ e. rw (e, fits_filled f lo o e) (formed_leading f (suc o.number) l))
    (λ e. by_test (is_empty o) (λ z. rw (e, z)) (λ z. rw (e, z)))

-- those are the places that are filled
pub kept_leading : (f lo : ℕ) (l : List Order) → formed_from f lo l ≡ true → keep (past_end 0) l ≡ take (leading f lo l) l
unfolding leading
kept_leading f lo [] e = refl
kept_leading f lo (o ∷ l) e =
    by_test (fits_after f lo o)
    (λ h. rw (h, fits_past f lo o h) (ap (λ (m : List Order). o ∷ m) (kept_leading f (suc o.number) l (rw (fits_filled f lo o h, h) at e))))
    (λ h. by_test (is_empty o)
    (λ z. rw (h, le-ltb 0 o.end (omega (arith, empty_end o z))) (empty_dropped l (rw z at e)))
    (λ z. absurd (false≢true (rw (z, h) at e))))

-- and they are all that the places hold
pub places_leading : (f lo : ℕ) (l : List Order) → length l ≡ 96 → formed_from f lo l ≡ true → l ≡ packed (take (leading f lo l) l)
places_leading f lo l h e = all_packed is_empty empty_order empty_is (leading f lo l) 96 l h (leading_long f lo l) (sym (formed_leading f lo l) ∙ e)

pub formed_places : (f : ℕ) (l : List Order) → length l ≡ 96 → formed_from f 0 l ≡ true → l ≡ packed (keep (past_end 0) l)
formed_places f l h e = rw (kept_leading f 0 l e) (places_leading f 0 l h e)

-- ---- by ascending number

pub rising_leading : (f lo : ℕ) (l : List Order) → Rising number lo (take (leading f lo l) l)
unfolding leading
rising_leading f lo [] = tt
rising_leading f lo (o ∷ l) =
    by_test (fits_after f lo o)
    (λ e. rw e ((fits_facts f lo o e).0, rising_leading f (suc o.number) l))
    (λ e. rw e tt)

pub ascending_leading : (f lo : ℕ) (l : List Order) → Ascending number (take (leading f lo l) l)
ascending_leading f lo l = ascending_rising number lo (take (leading f lo l) l) (rising_leading f lo l)

-- ---- the loop of count_leading, and count_held

-- what is counted, with what leads from here on, is what leads
module _ (f lo i n : ℕ) (l : List Order) (so_far : i + leading f lo (drop i l) ≡ n) where
  module _ (h : i < length l) where
    pub counted_on : fits_after f lo (order_at i l) ≡ true → i + 1 + leading f ((order_at i l).number + 1) (drop (i + 1) l) ≡ n
    unfolding leading
    counted_on e =
        let k : i + suc (leading f (suc (order_at i l).number) (drop (suc i) l)) ≡ n = rw (drop-cons l i past_order h, e) at so_far in
        rw (add-one i, add-one (order_at i l).number) (omega (arith, k))

    pub counted_here : fits_after f lo (order_at i l) ≡ false → i ≡ n
    unfolding leading
    counted_here e = let k : i + 0 ≡ n = rw (drop-cons l i past_order h, e) at so_far in omega (arith, k)

  pub counted_all : length l ≤ i → i ≡ n
  unfolding leading
  counted_all h = let k : i + 0 ≡ n = rw (drop_of_length-le l h) at so_far in omega (arith, k)

pub counted_none : (f : ℕ) (l : List Order) → 0 + leading f 0 (drop 0 l) ≡ leading f 0 l
counted_none f l = omega arith

-- a test of those after the counted ones
pub rest_empty : (count : ℕ) (l : List Order) → length l ≡ 96 → (rest : Bool) → rest ≡ all is_empty (take (96 - count) (drop count l)) → rest ≡ all is_empty (drop count l)
rest_empty count l h rest e = e ∙ ap (λ (m : List Order). all is_empty m) (rw h at (tail l count))

-- the answers: those after the counted ones are empty, or not all of them are
module _ (f count : ℕ) (l : List Order) (c : count ≡ leading f 0 l) where
  formed_rest : formed_from f 0 l ≡ all is_empty (drop count l)
  formed_rest = formed_leading f 0 l ∙ ap (λ (k : ℕ). all is_empty (drop k l)) (sym c)

  pub held_malformed : all is_empty (drop count l) ≡ false → None ≡ count_in f l
  unfolding count_in
  held_malformed e = rw (formed_rest ∙ e)

  pub held_count : (next : ℕ) → next ≡ next_end (take count l) → all is_empty (drop count l) ≡ true → counted count next ≡ count_in f l
  unfolding count_in
  held_count next n e = rw (formed_rest ∙ e, n, c)
