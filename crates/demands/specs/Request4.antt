-- Request A4 of document 02, "Keep the book over a restart", sentence by sentence, over the definitions that the contracts name. `text_of` and `read_of` are
-- in saved/specs/Saved.antt, the lines of a text in saved_lines/specs/Tables.antt; `restarting`, books with restarts, in saved_theorems/specs/Restart.antt.
use Rattle.std.specs.Prelude.{ℕ, ◌≤◌, length, take, drop, true, List, [], ◌∷◌, map, ◌++◌, ◌≡◌}
use Rattle.book.specs.Answers.{outcome}
use Rattle.book.specs.Places.{shelf, zero_book, formed_book}
use Rattle.book.specs.declared.Book.{Book}
use Rattle.book_ledger.specs.Demand.{whole, Revoked, LeftOut}
use Rattle.book_ledger.specs.Keepers.{run}
use Rattle.book_order.specs.declared.Order.{Order}
use Rattle.book_places.specs.Places.{fits_after}
use Rattle.book_theorems.specs.Books.{book_for, after, Kept}
use Rattle.record.specs.declared.Record.{Record}
use Rattle.saved.specs.Orders.{values_of}
use Rattle.saved.specs.Saved.{read_order, order_read_of, of_order_read, order_text, read_of, text_of, save_refusals, save_of, of_saved, saved_in}
use Rattle.saved.specs.Saved.{To, Refused}
use Rattle.saved_theorems.specs.Restart.{Sized, Agree, Turn, restarting, calls_of, turn_names, timely}
use Rattle.text.specs.Bytes.{all}
use Rattle.text.specs.Refusals.{first_holding}
use Rattle.text.specs.Said.{said}
use Rattle.value_name.specs.Names.{is_unit}

pub record Request4 : Type 0 where
  -- "Save it as `key=value` lines in fixed order": what a save that is taken writes is the book's text, and the bytes past its length stay
  pub taken_save : (b : Book) (out : List ℕ) (n : ℕ) → save_of b (length out) ≡ To n
      → (formed_book b ≡ true) × (n ≡ length (text_of (shelf b))) × (take n (saved_in b out) ≡ text_of (shelf b)) × (drop n (saved_in b out) ≡ drop n out)
  -- "Reading a saved well-formed book gives a book that answers every call alike": it is the same book
  pub read_back : (b : Book) (out : List ℕ) (n : ℕ) → Sized b → save_of b (length out) ≡ To n → read_of (take n (saved_in b out)) ≡ outcome 0 b
  -- "and one unit, floor and set of held orders have exactly one text": what is read as a book is that book's text
  pub one_text : (s : List ℕ) (b : Book) → read_of s ≡ outcome 0 b → (formed_book b ≡ true) × (s ≡ text_of (shelf b))
  -- "A book read back counts, for demand 3, as the history that was saved": with restarts anywhere the run is the one without them, and so it is kept;
  pub counts : (unit : List ℕ) (ts : List Turn) → is_unit unit ≡ true → all timely ts ≡ true
      → (run restarting ts (book_for unit) ≡ after unit (calls_of ts)) × Kept unit (calls_of ts)
  -- and demand 3's second half holds of it, word for word
  pub left_out : (unit : List ℕ) (before between later : List Turn) (c v : Record)
      → all timely (whole restarting (book_for unit) (turn_names unit) before between later c v) ≡ true
      → Revoked restarting (book_for unit) (turn_names unit) before between later c v
      → LeftOut restarting (book_for unit) (turn_names unit) before between later c v
  -- "Refusals: 20, then 11 on saving", with A6's 52 between: the list, and what is said: the first of them that holds, or the length
  pub in_order : (b : Book) (room : ℕ) → map (λ x. x.number) (save_refusals b room) ≡ 20 ∷ 52 ∷ 11 ∷ []
  pub save_says : (b : Book) (room : ℕ)
      → of_saved (save_of b room) ≡ first_holding (λ n d. said n d []) (said 0 0 (length (text_of (shelf b)) ∷ [])) (save_refusals b room)
  -- a refused save changes no byte
  pub refused_save : (b : Book) (out : List ℕ) (n d : ℕ) → save_of b (length out) ≡ Refused n d → saved_in b out ≡ out
  -- "50 with the first bad line on reading, which hands the all-zero book"
  pub refused : (s : List ℕ) → ((read_of s).number ≡ 0 → ⊥) → ((read_of s).number ≡ 50) × (1 ≤ (read_of s).detail) × ((read_of s).book ≡ zero_book)
  -- "the first bad line" is bad by the lines down to it: a text that is alike in these, their ends too, is refused at the same line
  pub judged_above : (s t : List ℕ) → ((read_of s).number ≡ 0 → ⊥) → Agree (read_of s).detail s t → read_of t ≡ read_of s
  -- one order by itself is read from its text, whatever follows it: its seven lines, where they end, and its values
  pub one_order : (floor least : ℕ) (o : Order) (rest : List ℕ) → fits_after floor least o ≡ true
      → of_order_read (order_read_of (read_order floor least 0 (order_text o ++ rest)) (order_text o ++ rest)) ≡ said 0 0 (7 ∷ length (order_text o) ∷ values_of o)
  -- a buffer of 24,576 bytes has room for every book
  pub book_small : (b : Book) → length b.orders ≡ 96 → formed_book b ≡ true → length (text_of (shelf b)) ≤ 24576
