-- Request A7 of document 02, "What the panel asks every second", sentence by sentence, over the definitions that the contracts name. `held_by`, the orders that
-- the accepted calls hold, is in book_ledger/specs/History.antt; `next_end` in book_order/specs/Orders.antt; `shown_of` in book/specs/Answers.antt.
use Rattle.std.specs.Prelude.{ℕ, ◌≤◌, length, true, false, ◌≡◌}
use Rattle.book.specs.Answers.{of_panel, shown_of}
use Rattle.book.specs.Places.{shelf, formed_book}
use Rattle.book.specs.declared.Book.{Book}
use Rattle.book_ledger.specs.Calls.{Call}
use Rattle.book_ledger.specs.History.{held_by}
use Rattle.book_lists.proofs.Keeping.{All}
use Rattle.book_order.specs.Orders.{next_end}
use Rattle.book_order.specs.declared.Order.{Order}
use Rattle.book_theorems.specs.Books.{after, history}
use Rattle.text.specs.Said.{said}
use Rattle.value_name.specs.Names.{is_unit}
use mathlib.Core.List.{List, [], ◌∷◌, Memᴰ}

pub record Request7 : Type 0 where
  -- "The panel shows how many orders are held and when the next one ends. Keep both numbers in the book, true after every call, and let the panel read them.":
  -- after any calls it shows those of the orders that the accepted calls hold
  pub shows : (unit : List ℕ) (ks : List Call) → is_unit unit ≡ true
      → of_panel (shown_of (after unit ks)).answer ≡ said 0 0 (length (held_by (history unit ks)) ∷ next_end (held_by (history unit ks)) ∷ [])
  -- and it reads what is stored
  pub reads_stored : (b : Book) → formed_book b ≡ true → of_panel (shown_of b).answer ≡ said 0 0 (b.held ∷ b.next ∷ [])
  -- the next end is some held order's, and at most each; "With nothing held the next end is 0", and with any it is not
  pub next_is : (unit : List ℕ) (ks : List Call) → (held_by (history unit ks) ≡ [] → ⊥)
      → (o : Order) × Memᴰ o (held_by (history unit ks)) × (o.end ≡ next_end (held_by (history unit ks)))
  pub next_least : (unit : List ℕ) (ks : List Call) → All (λ (o : Order). next_end (held_by (history unit ks)) ≤ o.end) (held_by (history unit ks))
  pub none_held : next_end [] ≡ 0
  pub some_held : (unit : List ℕ) (ks : List Call) → next_end (held_by (history unit ks)) ≡ 0 → held_by (history unit ks) ≡ []
  -- "They are defined by the held orders, not by the old stored values."
  pub defined : (b : Book) → formed_book b ≡ true → (b.held ≡ length (shelf b).orders) × (b.next ≡ next_end (shelf b).orders)
  -- "Refusals: a book whose two numbers are wrong is malformed, 20." (`Demand3` says that every call then is 20)
  pub wrong_numbers : (b : Book) → ((b.held ≡ length (shelf b).orders) × (b.next ≡ next_end (shelf b).orders) → ⊥) → formed_book b ≡ false
  pub refused : (b : Book) → formed_book b ≡ false → of_panel (shown_of b).answer ≡ said 20 0 []
