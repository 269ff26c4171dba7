-- The orders that a close leaves, and the place of the last one in force. Assumes nothing.
use Rattle.std.specs.Prelude.{None, Some}
use Prim.Native.Nat.{ℕ, zero, suc, ◌≤◌, ◌<◌}
use Rattle.book_lists.specs.Keyed.{keep, greatest, Ascending}
use Rattle.book_order.specs.Orders.{number, live, past_end, empty_order}
use Rattle.book_order.specs.declared.Order.{Order}
use Rattle.book_places.specs.Places.{packed, past_order, stays, kept_in, kept_of, place_of}
use Rattle.book_shelf.proofs.Keeping.{keep_at_first, Passed}
use Rattle.book_shelf.proofs.Lasting.{last_most, greatest_last, key_taken}
use Rattle.book_shelf.specs.Shelf.{between, keep_at, last_at, key_of}
use borrow.Author.Tests.{lt-leb, le-ltb}
use lib.ListN.{length, take, length-take, length-drop}
use mathlib.Core.List.{List}
use mathlib.Core.Path.{◌≡◌, ap, ◌∙◌}
use native.Mathlib.Omega.{arith}

-- ---- what a close leaves

-- the answer of keep_past
pub kept_end : (from to count t i kept : ℕ) (l out : List Order) → Passed empty_order past_order 96 (stays from to t) i kept l out → i ≤ count → count ≤ i
    → record { orders = out; count = kept } ≡ kept_of from to count t l
unfolding kept_in
kept_end from to count t i kept l out p h k =
    let n : i ≡ count = omega (arith, h, k) in
    λ j. record {
      orders = (p.places ∙ ap (λ (m : ℕ). packed (keep_at (stays from to t) 0 (take m l))) n) j;
      count = (p.count_is ∙ ap (λ (m : ℕ). length (keep_at (stays from to t) 0 (take m l))) n) j;
    }

-- a close of all orders
pub kept_all : (count t : ℕ) (l : List Order) → kept_in 0 count count t l ≡ keep (past_end t) (take count l)
unfolding kept_in
kept_all count t l = keep_at_first (stays 0 count t) (past_end t) count l (λ k o h. rw (le-ltb k 0 (omega arith), lt-leb count k h))

-- ---- the last one in force

-- by ascending number it has the greatest number
pub live_last : (t count : ℕ) (l : List Order) → Ascending number (take count l)
    → greatest number (live t) (take count l) ≡ key_of number past_order (last_at (live t) 0 (between 0 count l)) l
live_last t count l s =
    greatest_last (live t) number past_order (take count l) s
    ∙ key_taken number past_order (last_at (live t) 0 (take count l)) count l (omega (arith, last_most (live t) 0 (take count l), length-take count l))

pub place_at : (n i : ℕ) → Some i ≡ place_of n → n ≡ suc i
place_at zero i e = let z : ◌≡◌ {A = ℕ} 0 1 = cc in absurd (omega arith)
place_at (suc n) i e = cc

pub place_none : (n : ℕ) → None ≡ place_of n → n ≡ 0
place_none zero e = cc
place_none (suc n) e = let z : ◌≡◌ {A = ℕ} 0 1 = cc in absurd (omega arith)

-- and its place is one of those looked at
pub place_inside : (t from to i : ℕ) (l : List Order) → from ≤ to → Some i ≡ place_of (last_at (live t) from (between from to l)) → i < to
place_inside t from to i l h e =
    omega (
      arith,
      place_at (last_at (live t) from (between from to l)) i e,
      last_most (live t) from (between from to l),
      length-drop from (take to l),
      length-take to l,
      h,
    )
