-- A saved book, read and written. Document 02, A4: "Save it as `key=value` lines in fixed order: `form=1`, `unit`, `floor`, `count`, then for each held
-- order, by ascending number, .."; "Refusals: 20, then 11 on saving; 50 with the first bad line on reading, which hands the all-zero book"; A6: 52 after 20.
use Rattle.std.specs.Prelude.{ℕ, zero, suc, ◌-◌, ltb, length, take, replicate, Bool, true, false, not, ◌&&◌, cond, List, [], ◌∷◌, ◌++◌, Result, Ok, Err}
use Rattle.book.specs.Answers.{Outcome, outcome}
use Rattle.book.specs.Places.{book_of, shelf, zero_book, formed_book}
use Rattle.book.specs.declared.Book.{Book}
use Rattle.book_ledger.specs.Ledger.{Ledger}
use Rattle.book_order.specs.Orders.{empty_order, is_partial}
use Rattle.book_order.specs.declared.Order.{Order}
use Rattle.saved.specs.Orders.{values_of, order_from}
use Rattle.saved.specs.Reads.{Read, good, bad, and_then, ended, read_item, read_unit}
use Rattle.refusal.specs.Numbers.{number_of, detail_of}
use Rattle.refusal.specs.declared.Refusal.{Refusal as Reason}
use Rattle.saved.specs.declared.Head.{Head as GoodHead}
use Rattle.saved.specs.declared.OrderRead.{OrderRead as GoodOrder}
use Rattle.saved_lines.specs.Items.{text_from}
use Rattle.saved_lines.specs.Tables.{at, next_of}
use Rattle.saved_lines.specs.declared.Above.{Above}
use Rattle.saved_lines.specs.declared.Table.TheVariants.{Form, Head as HeadTable, Order as OrderTable}
use Rattle.text.specs.Bytes.{any, bytes}
use Rattle.text.specs.Puts.{buffer_of}
use Rattle.text.specs.Refusals.{Refusal, refusal, first_holding}
use Rattle.text.specs.Said.{Said, said}
use Rattle.text_keyline.specs.Keylines.{line_text}
use Rattle.text_room.specs.Rooms.{kept_in}

-- ---- reading

-- what the lines above leave to an order: numbers ascend, and it ends past the floor
abbrev pub above : ℕ → ℕ → Above
above least end = record { least = least; end = end }

abbrev pub nothing : Above
nothing = above 0 0

-- an order from line n on
unfoldable pub read_order : ℕ → ℕ → ℕ → List ℕ → Read Order
read_order floor least n s = and_then (read_item OrderTable (above least (suc floor)) n s) (λ vs m rest. good (order_from vs) m rest)

-- so many orders, each with the least number that the one above it leaves
unfoldable pub read_orders : ℕ → ℕ → ℕ → ℕ → List ℕ → Read (List Order)
read_orders floor zero least n s = good [] n s
read_orders floor (suc k) least n s =
    and_then (read_order floor least n s)
    (λ o m rest. and_then (read_orders floor k (suc o.number) m rest) (λ os l r. good (o ∷ os) l r))

-- the lines above the orders
pub record Top : Type 0 where
  pub unit : List ℕ
  pub floor : ℕ
  pub count : ℕ

unfoldable pub read_head : List ℕ → Read Top
read_head s =
    and_then (read_item Form nothing 1 s) (λ f n t.
    and_then (read_unit n t) (λ u m r.
    and_then (read_item HeadTable nothing m r) (λ h l q.
    good (record { unit = u; floor = at 0 h; count = at 1 h }) l q)))

-- the orders below them, and nothing more
unfoldable pub read_rest : Top → ℕ → List ℕ → Read Ledger
read_rest h n s =
    and_then (read_orders h.floor h.count 0 n s) (λ os m rest. ended (record { unit = h.unit; floor = h.floor; orders = os }) m rest)

-- THE DEFINITION: the ledger that a text says, or its first bad line
unfoldable pub read_book : List ℕ → Read Ledger
read_book s = and_then (read_head s) read_rest

-- 50 with the first bad line, and the all-zero book
abbrev pub unread_at : ℕ → Outcome
unread_at n = record { number = 50; detail = n; book = zero_book }

abbrev pub read_as : Read Ledger → Outcome
read_as (good l n rest) = outcome 0 (book_of l)
read_as (bad n) = unread_at n

-- THE DEFINITION: the book of a text
unfoldable pub read_of : List ℕ → Outcome
read_of s = read_as (read_book s)

-- what the function says that reads the book alone
abbrev pub book_by : Result Book ℕ → Outcome
book_by (Ok b) = outcome 0 b
book_by (Err n) = unread_at n

-- ---- what the functions answer for an order and for the lines above

-- one order at the front of a text: the order, how many lines it has and where it ends; or how many good lines stand above its first bad one alone
pub record OrderRead : Type 0 where
  pub good : Bool
  pub order : Order
  pub lines : ℕ
  pub end : ℕ

-- what an answer says
abbrev pub order_read_by : Result GoodOrder ℕ → OrderRead
order_read_by (Ok x) = record { good = true; order = x.order; lines = x.lines; end = x.end }
order_read_by (Err k) = record { good = false; order = empty_order; lines = k; end = 0 }

abbrev pub order_read_of : Read Order → List ℕ → OrderRead
order_read_of (good o n rest) s = record { good = true; order = o; lines = n; end = length s - length rest }
order_read_of (bad n) s = record { good = false; order = empty_order; lines = n; end = 0 }

-- what that answer says: how many lines the order has, where it ends and its values; or 50 with how many good lines stand above its first bad one
abbrev pub of_order_read : OrderRead → Said
of_order_read x = cond x.good (said 0 0 (x.lines ∷ x.end ∷ values_of x.order)) (said 50 x.lines [])

-- what stands above the orders: the unit's code in its room, the floor, how many orders there are, the number of their first line and its place; or the
-- number of the first bad line alone
pub record Head : Type 0 where
  pub good : Bool
  pub size : ℕ
  pub unit : List ℕ
  pub floor : ℕ
  pub count : ℕ
  pub line : ℕ
  pub end : ℕ

abbrev pub bad_head : ℕ → Head
bad_head n = record { good = false; size = 0; unit = replicate 16 0; floor = 0; count = 0; line = n; end = 0 }

-- what an answer says
abbrev pub head_by : Result GoodHead ℕ → Head
head_by (Ok h) = record { good = true; size = h.size; unit = h.unit; floor = h.floor; count = h.count; line = h.line; end = h.end }
head_by (Err n) = bad_head n

abbrev pub head_of : Read Top → List ℕ → Head
head_of (good h n rest) s =
    record {
      good = true;
      size = length h.unit;
      unit = kept_in 16 h.unit;
      floor = h.floor;
      count = h.count;
      line = n;
      end = length s - length rest;
    }
head_of (bad n) s = bad_head n

-- the book below a head
abbrev pub top_of : Head → Top
top_of h = record { unit = take h.size h.unit; floor = h.floor; count = h.count }

abbrev pub read_below : Head → List ℕ → Read Ledger
read_below h s = read_rest (top_of h) h.line s

-- ---- writing

abbrev pub order_text : Order → List ℕ
order_text o = text_from (next_of OrderTable nothing) [] (values_of o)

abbrev pub orders_text : List Order → List ℕ
orders_text [] = []
orders_text (o ∷ l) = order_text o ++ orders_text l

unfoldable pub head_text : List ℕ → ℕ → ℕ → List ℕ
head_text unit floor count =
    text_from (next_of Form nothing) [] (1 ∷ [])
    ++ line_text (bytes "unit=") unit
    ++ text_from (next_of HeadTable nothing) [] (floor ∷ count ∷ [])

-- THE DEFINITION: the text of a ledger
unfoldable pub text_of : Ledger → List ℕ
text_of l = head_text l.unit l.floor (length l.orders) ++ orders_text l.orders

-- an order is struck in part
abbrev pub has_partial : Book → Bool
has_partial b = any is_partial (shelf b).orders

-- 20, the book is malformed; 52, an order is struck in part (document 02, A6); 11, there is no room, with the length needed
abbrev pub save_refusals : Book → ℕ → List Refusal
save_refusals b room =
    refusal 20 0 (not (formed_book b))
    ∷ refusal 52 0 (has_partial b)
    ∷ refusal 11 (length (text_of (shelf b))) (ltb room (length (text_of (shelf b))))
    ∷ []

-- how long the saved text is, or a refusal's number and detail
pub data Saved : Type 0 where
  To : ℕ → Saved
  Refused : ℕ → ℕ → Saved

-- what an answer says
abbrev pub saved_by : Result ℕ Reason → Saved
saved_by (Ok n) = To n
saved_by (Err e) = Refused (number_of e) (detail_of e)

-- THE DEFINITION: what saving into so much room answers
unfoldable pub save_of : Book → ℕ → Saved
save_of b room = first_holding Refused (To (length (text_of (shelf b)))) (save_refusals b room)

-- what that answer says: the length, or a refusal's number and detail
abbrev pub of_saved : Saved → Said
of_saved (To n) = said 0 0 (n ∷ [])
of_saved (Refused n d) = said n d []

-- the buffer after it: a refusal changes no byte
unfoldable pub saved_in : Book → List ℕ → List ℕ
saved_in b out = cond (formed_book b && not (has_partial b)) (buffer_of out 0 (text_of (shelf b))) out
