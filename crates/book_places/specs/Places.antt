-- The 96 places of a book of commands. Document 01, "The book of commands": held orders fill the first places by ascending number; all other places are
-- zero. Which orders may stand there, where a number stands, and what is left after a close.
use Rattle.std.specs.Prelude.{ℕ, zero, suc, ◌+◌, leb, ltb, pos, length, take, Bool, true, false, ◌&&◌, ◌||◌, cond, List, [], ◌∷◌, None, Option, Some, Result, Ok, Err}
use Rattle.book_order.specs.Orders.{number, past_end, next_end, empty_order, is_empty, could_hold}
use Rattle.book_order.specs.declared.Order.{Order}
use Rattle.book_places.specs.declared.Count.{Count}
use Rattle.book_places.specs.declared.Kept.{Kept}
use Rattle.book_shelf.specs.Shelf.{packed as packed_in, thing, between, rank_of, is_held_at, keep_at}
use Rattle.layout.specs.declared.Layout.TheVariants.{Market}
use Rattle.text.specs.Bytes.{all}

-- ---- places and what stands there

-- orders in the first of the 96 places
abbrev pub packed : List Order → List Order
packed l = packed_in empty_order 96 l

-- what would be read past the last place, where there is no array either
abbrev pub past_order : Order
past_order = record { number = 0; layout = Market; start = 0; end = 0; first = pos 0; second = pos 0; struck = [] }

abbrev pub order_at : ℕ → List Order → Order
order_at i l = thing past_order i l

-- ---- which orders may stand there

-- an order that may stand after numbers below lo, in a book with the floor f
unfoldable pub fits_after : ℕ → ℕ → Order → Bool
fits_after f lo o = leb lo o.number && (ltb f o.end && could_hold o)

-- places that hold orders by ascending number from lo on, and then nothing
abbrev pub formed_from : ℕ → ℕ → List Order → Bool
formed_from f lo [] = true
formed_from f lo (o ∷ l) = cond (is_empty o) (all is_empty l) (fits_after f lo o && formed_from f (suc o.number) l)

-- how many of the first places hold orders, by ascending number from lo on, that fit a book with the floor f
unfoldable pub leading : ℕ → ℕ → List Order → ℕ
leading f lo [] = 0
leading f lo (o ∷ l) = cond (fits_after f lo o) (suc (leading f (suc o.number) l)) 0

-- how many orders the places of a book with the floor f hold, and when the next of them ends, unless they are malformed
abbrev pub counted : ℕ → ℕ → Option Count
counted n next = Some (record { held = n; next = next })

unfoldable pub count_in : ℕ → List Order → Option Count
count_in f l = cond (formed_from f 0 l) (counted (leading f 0 l) (next_end (take (leading f 0 l) l))) None

-- ---- the seat of the number n among the places from..to: where it stands or would stand, and whether an order has it

pub record Seat : Type 0 where
  pub at : ℕ
  pub held : Bool

unfoldable pub seat_in : ℕ → ℕ → ℕ → List Order → Seat
seat_in n from to l = record {
  at = from + rank_of number n (between from to l);
  held = is_held_at number past_order n (rank_of number n (between from to l)) (between from to l);
}

-- what an answer says
abbrev pub seat_by : Result ℕ ℕ → Seat
seat_by (Ok i) = record { at = i; held = true }
seat_by (Err i) = record { at = i; held = false }

-- ---- a close at t of the places from..to

-- an order outside of them stays, and so does one that ends past t
abbrev pub stays : ℕ → ℕ → ℕ → ℕ → Order → Bool
stays from to t i o = (ltb i from || leb to i) || past_end t o

-- of the first `count` orders those that stay
unfoldable pub kept_in : ℕ → ℕ → ℕ → ℕ → List Order → List Order
kept_in from to count t l = keep_at (stays from to t) 0 (take count l)

abbrev pub kept_of : ℕ → ℕ → ℕ → ℕ → List Order → Kept
kept_of from to count t l = record { orders = packed (kept_in from to count t l); count = length (kept_in from to count t l) }

-- ---- the place that `last_at` names

abbrev pub place_of : ℕ → Option ℕ
place_of zero = None
place_of (suc i) = Some i
