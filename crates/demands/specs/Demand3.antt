-- Demand 3, sentence by sentence: what `Kept`, `Revoked` and `LeftOut` say is in book_theorems/specs/Books.antt and book_ledger/specs/Demand.antt; `of_in_force`,
-- what the answer to the question says, in book/specs/Answers.antt.
use Rattle.std.specs.Prelude.{ℕ, ◌≤◌, eqb, length, true, false, cond, List, [], ◌∷◌, ◌↔◌, ◌≡◌}
use Rattle.book.specs.Answers.{call_number, of_tally, of_in_force, found_number, asked_of, fresh_of, deed_outcome_of}
use Rattle.book.specs.Places.{shelf, formed_book, tally_of}
use Rattle.book.specs.declared.Book.{Book}
use Rattle.book_ledger.specs.Calls.{Call, ask, names, Deed}
use Rattle.book_ledger.specs.Demand.{Revoked, LeftOut}
use Rattle.book_ledger.specs.History.{ledger_of}
use Rattle.book_ledger.specs.Ledger.{in_force}
use Rattle.book_order.specs.Orders.{could_come}
use Rattle.book_order.specs.declared.Order.{Order}
use Rattle.book_source.specs.Given.{Given}
use Rattle.book_theorems.specs.Books.{books, book_for, after, history, Kept}
use Rattle.record.specs.declared.Record.{Record}
use Rattle.text.specs.Said.{said}
use Rattle.value_name.specs.Names.{is_unit}

pub record Demand3 : Type 0 where
  -- "From an empty book, each call is refused exactly where document 01 says, and after any calls the order in force at any instant not yet closed is the
  -- one the accepted calls define."
  pub kept : (unit : List ℕ) (ks : List Call) → is_unit unit ≡ true → Kept unit ks
  -- which is said by its number, or by none
  pub said_in_force : (unit : List ℕ) (ks : List Call) → is_unit unit ≡ true
      → (t : ℕ) → (after unit ks).floor ≤ t
      → of_in_force (asked_of t (after unit ks)).answer ≡ said 0 0 (found_number (in_force t (ledger_of unit (history unit ks))))
  -- a fresh book for a good unit is not refused; a bad unit is refused 21, and its book by every call
  pub good_unit : (unit : List ℕ) → is_unit unit ≡ true → ((fresh_of unit).number ≡ 0) × ((fresh_of unit).detail ≡ 0)
  pub bad_unit : (unit : List ℕ) (ks : List Call) (k : Call) → is_unit unit ≡ false
      → ((fresh_of unit).number ≡ 21) × (call_number k (after unit ks) ≡ 20) × (after unit ks ≡ book_for unit)
  -- of 20, "what no valid CB record gives": the test of an order is whether a valid CB record gives it
  pub could_come_iff : (o : Order) → could_come o ≡ true ↔ Given o
  -- of any book the question says its list's refusal, with the detail 0, or the number of the order in force
  pub asked : (t : ℕ) (b : Book)
      → of_in_force (asked_of t b).answer ≡ said (call_number (ask t) b) 0 (cond (eqb (call_number (ask t) b) 0) (found_number (in_force t (shelf b))) [])
  -- "Take a run in which a command was taken and later revoked, no other call after the command named its number, and none after it was refused for want of
  -- a place. Leave out that command and that revocation: every other command, revocation and close gets the same answer, and at the end the same order is in
  -- force at every instant not yet closed."
  pub left_out : (unit : List ℕ) (before between later : List Call) (c v : Record)
      → Revoked books (book_for unit) (names unit) before between later c v
      → LeftOut books (book_for unit) (names unit) before between later c v
  -- how many orders a book holds: 20 where it is malformed, else their count
  pub tallied : (b : Book) → of_tally (tally_of b) ≡ cond (formed_book b) (said 0 0 (length (shelf b).orders ∷ [])) (said 20 0 [])
  -- what the deeds without a message do, held or struck: a book that is not malformed stays so
  pub deeds_keep : (d : Deed) (b : Book) → length b.orders ≡ 96 → formed_book b ≡ true → formed_book (deed_outcome_of d b).book ≡ true
