-- The book of one unit, and the ledger that its 96 places hold. Document 01, "The book of commands": held orders fill the first places by ascending
-- number; all other places are zero; and which books are malformed.
use Rattle.std.specs.Prelude.{ℕ, eqb, leb, length, take, drop, replicate, Bool, ◌&&◌, cond, List, [], None, Option, Some}
use Rattle.book.specs.declared.Book.{Book}
use Rattle.book_ledger.specs.Calls.{unfit}
use Rattle.book_ledger.specs.Ledger.{Ledger}
use Rattle.book_lists.specs.Keyed.{keep}
use Rattle.book_order.specs.Orders.{past_end, next_end, empty_order}
use Rattle.book_order.specs.declared.Order.{Order}
use Rattle.book_places.specs.Places.{packed, formed_from}
use Rattle.record.specs.declared.Record.{Record}
use Rattle.text.specs.Bytes.{all, is}
use Rattle.text.specs.Puts.{room_of}
use Rattle.text.specs.Refusals.{first_number}
use Rattle.text_room.specs.Rooms.{kept_in}
use Rattle.value_name.specs.Names.{is_unit}

-- ---- making a book

-- every book is made so
abbrev pub book_with : ℕ → List ℕ → ℕ → ℕ → ℕ → List Order → Book
book_with size unit floor held next orders = record { size = size; unit = unit; floor = floor; held = held; next = next; orders = orders }

-- with another floor and other orders, and the panel's two numbers of these
abbrev pub with_orders : Book → ℕ → ℕ → ℕ → List Order → Book
with_orders b floor held next orders = book_with b.size b.unit floor held next orders

-- of a unit, with so many orders
unfoldable pub book_from : List ℕ → ℕ → ℕ → List Order → Book
book_from unit floor count orders = book_with (length unit) (kept_in 16 unit) floor count (next_end (take count orders)) orders

-- the all-zero book
unfoldable pub zero_book : Book
zero_book = book_with 0 (replicate 16 0) 0 0 0 (replicate 96 empty_order)

-- ---- the book that holds a ledger, and the ledger that a book holds

unfoldable pub book_of : Ledger → Book
book_of l = book_with (length l.unit) (room_of 16 l.unit) l.floor (length l.orders) (next_end l.orders) (packed l.orders)

unfoldable pub shelf : Book → Ledger
shelf b = record { unit = take b.size b.unit; floor = b.floor; orders = keep (past_end 0) b.orders }

-- ---- malformed books (20)

-- the unit is good and its unused room is zero
unfoldable pub formed_unit : ℕ → List ℕ → Bool
formed_unit size unit = leb size 16 && (is_unit (take size unit) && all (is 0) (drop size unit))

-- the panel's two numbers are those of the held orders. Document 02, A7: "They are defined by the held orders, not by the old stored values"
unfoldable pub true_panel : Book → Bool
true_panel b = eqb b.held (length (shelf b).orders) && eqb b.next (next_end (shelf b).orders)

-- THE DEFINITION: a book that is not malformed
unfoldable pub formed_book : Book → Bool
formed_book b = formed_unit b.size b.unit && (formed_from b.floor 0 b.orders && true_panel b)

-- how many orders a book holds, unless it is malformed
unfoldable pub tally_of : Book → Option ℕ
tally_of b = cond (formed_book b) (Some (length (shelf b).orders)) None

-- ---- what is refused for the message alone, with the layout's test as the call found it: 0 where nothing is

unfoldable pub unfit_in : Bool → List ℕ → Record → ℕ
unfit_in right unit r = first_number (unfit (λ l. right) unit r [])
