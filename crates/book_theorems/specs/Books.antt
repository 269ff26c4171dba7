-- Demand 3 of the book with its 96 places, from a fresh book for a unit and after any calls.
use Rattle.std.specs.Prelude.{ℕ, ◌≤◌, true, List, map, ◌≡◌}
use Rattle.book.specs.Answers.{call_number, next_of, fresh_of, found, asked_of}
use Rattle.book.specs.Places.{formed_book}
use Rattle.book.specs.declared.Book.{Book}
use Rattle.book.specs.Answers.{InForce}
use Rattle.book_ledger.specs.Calls.{Call, command, revoke, Deed, deed_of}
use Rattle.book_ledger.specs.History.{ledger_of}
use Rattle.book_ledger.specs.Keepers.{Keeper, run, accepted}
use Rattle.book_ledger.specs.Ledger.{answer, in_force}

-- books, as keepers: what the book's own calls answer and hand back
abbrev pub books : Keeper
books =
    record {
      State = Book;
      Call = Call;
      command = command;
      revoke = revoke;
      answer = call_number;
      step = next_of;
      floor = λ (b : Book). b.floor;
      Found = InForce;
      in_force = λ (t : ℕ) (b : Book). (asked_of t b).answer;
    }

abbrev pub book_for : List ℕ → Book
book_for unit = (fresh_of unit).book

-- after calls ks from the fresh book of a unit
module _ (unit : List ℕ) (ks : List Call) where
  abbrev pub after : Book
  after = run books ks (book_for unit)

  -- what those of them that the book accepted did
  abbrev pub history : List Deed
  history = map deed_of (accepted books ks (book_for unit))

  -- the book is well formed; every call is refused exactly where it is by what those calls define; and so is the order in force at every instant not
  -- yet closed
  pub record Kept : Type 0 where
    pub formed : formed_book after ≡ true
    pub answers_so : (k : Call) → call_number k after ≡ answer k (ledger_of unit history)
    pub in_force_so : (t : ℕ) → after.floor ≤ t → (asked_of t after).answer ≡ found (in_force t (ledger_of unit history))
