-- A book over a restart. Document 02, A4: "A book read back counts, for demand 3, as the history that was saved."
use Rattle.std.specs.Prelude.{ℕ, zero, suc, ◌≤◌, leb, length, take, Bool, true, false, List, [], ◌∷◌, ◌≡◌}
use Rattle.book.specs.Answers.{call_number, next_of, asked_of}
use Rattle.book.specs.declared.Book.{Book}
use Rattle.book.specs.Answers.{InForce}
use Rattle.book_ledger.specs.Calls.{Call, command, revoke, close, ask, names}
use Rattle.book_ledger.specs.Keepers.{Keeper}
use Rattle.book_order.specs.Orders.{Name}
use Rattle.saved.specs.Saved.{read_of, save_of, saved_in}
use Rattle.saved.specs.Saved.{Saved}
use Rattle.saved.specs.Saved.{To, Refused}
use Rattle.text.specs.Bytes.{is, any, upto}
use Rattle.text_keyline.specs.Keylines.{below}

-- a book as a function has it: 96 places, a room of 16 bytes, and a floor of 32 bits
pub record Sized (b : Book) : Type 0 where
  pub wide : length b.unit ≡ 16
  pub long : length b.orders ≡ 96
  pub floor_fits : b.floor ≤ 4294967295

-- ---- calls and restarts

-- a turn of a gateway: a call of its book; or a restart, which saves the book into a lent buffer and reads it back
pub data Turn : Type 0 where
  call : Call → Turn
  restart : List ℕ → Turn

-- a book that was saved is read from what the save wrote; where the save was refused there is no restart
abbrev pub read_back : Book → List ℕ → Saved → Book
read_back b out (To n) = (read_of (take n (saved_in b out))).book
read_back b out (Refused n d) = b

-- a restart has no answer of its own: it is no command, revocation or close
abbrev pub turn_number : Turn → Book → ℕ
turn_number (call k) b = call_number k b
turn_number (restart out) b = 0

abbrev pub turn_next : Turn → Book → Book
turn_next (call k) b = next_of k b
turn_next (restart out) b = read_back b out (save_of b (length out))

-- THE DEFINITION: books with restarts, as keepers
abbrev pub restarting : Keeper
restarting =
    record {
      State = Book;
      Call = Turn;
      command = λ r. call (command r);
      revoke = λ r. call (revoke r);
      answer = turn_number;
      step = turn_next;
      floor = λ (b : Book). b.floor;
      Found = InForce;
      in_force = λ (t : ℕ) (b : Book). (asked_of t b).answer;
    }

-- the calls without the restarts
abbrev pub calls_of : List Turn → List Call
calls_of [] = []
calls_of (call k ∷ ts) = k ∷ calls_of ts
calls_of (restart out ∷ ts) = calls_of ts

-- which turns name an order
abbrev pub turn_names : List ℕ → Name → Turn → Bool
turn_names unit n (call k) = names unit n k
turn_names unit n (restart out) = false

-- "Here t is 0 to 4,294,967,295": the closes
abbrev pub timely : Turn → Bool
timely (call (command r)) = true
timely (call (revoke r)) = true
timely (call (close t)) = leb t 4294967295
timely (call (ask t)) = true
timely (restart out) = true

-- ---- the lines down to one

-- two texts alike in their first n lines, their ends too
abbrev pub Agree : ℕ → List ℕ → List ℕ → Type 0
Agree zero s t = Unit {0}
Agree (suc n) s t = (any (is 10) s ≡ any (is 10) t) × (upto (is 10) s ≡ upto (is 10) t) × Agree n (below s) (below t)
