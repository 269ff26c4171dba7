-- Request A6 of document 02, "A revocation for part of the time", sentence by sentence, over the definitions that the contracts name. Stretches and their
-- joining are in book_stretch/specs/Stretches.antt, what a strike does to an order in book_order/specs/Orders.antt; `in_force_by`, what is in force by the
-- accepted calls alone, in book_ledger/specs/History.antt; `GivenStrike` in book_source/specs/Given.antt.
use Rattle.std.specs.Prelude.{ℕ, ◌≤◌, ◌<◌, length, Bool, true, false, not, ◌&&◌, List, [], ◌∷◌, map, ◌↔◌, ◌≡◌}
use Rattle.book.specs.Answers.{found, asked_of}
use Rattle.book.specs.Places.{shelf, formed_book}
use Rattle.book.specs.declared.Book.{Book}
use Rattle.book_ledger.specs.Calls.{Call, strike, names}
use Rattle.book_ledger.specs.Demand.{Revoked, LeftOut}
use Rattle.book_ledger.specs.History.{in_force_by}
use Rattle.book_ledger.specs.Ledger.{Ledger, rungs_of}
use Rattle.book_order.specs.Messages.{order_of, strike_of}
use Rattle.book_order.specs.Orders.{named, time_of, live, Strike, could_strike, strike_at, sticks_out, is_struck, makes_five, is_partial}
use Rattle.book_order.specs.declared.Order.{Order}
use Rattle.book_source.specs.Given.{GivenStrike}
use Rattle.book_stretch.specs.Stretches.{stretch, covers, lies, used_in, in_four, formed_in, joined}
use Rattle.book_stretch.specs.declared.Stretch.{Stretch}
use Rattle.book_theorems.specs.Books.{books, book_for, after, history}
use Rattle.record.specs.declared.Record.{Record}
use Rattle.report_brief.specs.Brief.{start_of, end_of}
use Rattle.saved.specs.Saved.{save_of}
use Rattle.saved.specs.Saved.{Refused}
use Rattle.text.specs.Bytes.{all, any}
use Rattle.text.specs.Refusals.{Refusal}
use Rattle.value_ask.specs.Values.{instant_in}
use Rattle.value_name.specs.Names.{is_unit}

pub record Request6 : Type 0 where
  -- "A revocation shall strike from its start to its end": it says that stretch; and a strike passes its test exactly where some valid RC record says it
  pub says : (r : Record) → (strike_of r).over ≡ stretch (instant_in (start_of r)) (instant_in (end_of r))
  pub could_strike_iff : (s : Strike) → could_strike s ≡ true ↔ GivenStrike s
  -- the order that it names is then live at t exactly where it was and t is outside the stretch; every other order is as before
  pub struck_exactly : (s : Strike) (o : Order) (t : ℕ) → named s.name o ≡ true → live t (strike_at s o) ≡ live t o && not (covers t s.over)
  pub others_stay : (s : Strike) (o : Order) → named s.name o ≡ false → strike_at s o ≡ o
  -- "A held order carries up to four struck stretches; it is in force at an instant outside all of them."
  pub outside_all : (o : Order) (t : ℕ) → live t o ≡ true ↔ (covers t (time_of o) ≡ true) × (any (covers t) o.struck ≡ false)
  -- "A book is malformed if its stretches aren't each with its start before its end, in time order, apart, inside their order, and zero where unused."
  pub malformed : (b : Book) → formed_book b ≡ true → all (λ (o : Order). formed_in (time_of o) o.struck) (shelf b).orders ≡ true
  -- and joining keeps stretches so
  pub joining_keeps : (time s : Stretch) (l : List Stretch) → formed_in time l ≡ true → s.from < s.to → lies s time ≡ true → length (joined s (used_in l)) ≤ 4
      → formed_in time (in_four (joined s (used_in l))) ≡ true
  -- "Demand 3's first half reads so.": after any calls the order in force at an instant not yet closed is, of the orders that accepted commands brought and
  -- that run there, struck by no accepted revocation that came after, the one with the greatest number. No stretch is joined in this
  pub by_calls : (unit : List ℕ) (ks : List Call) → is_unit unit ≡ true → (t : ℕ) → (after unit ks).floor ≤ t
      → (asked_of t (after unit ks)).answer ≡ found (in_force_by t (history unit ks))
  -- "Its second half now needs the removed revocation to cover the whole order and no other revocation in the run to name that number.": it is demand 3's
  -- `left_out`, word for word, and `Revoked` asks for the cover too. (Of other revocations it asks that none after the command names the number; one before it
  -- names another order)
  pub left_out : (unit : List ℕ) (before between later : List Call) (c v : Record)
      → Revoked books (book_for unit) (names unit) before between later c v
      → LeftOut books (book_for unit) (names unit) before between later c v
  pub covers_whole : (unit : List ℕ) (before between later : List Call) (c v : Record)
      → Revoked books (book_for unit) (names unit) before between later c v
      → lies (time_of (order_of c)) (strike_of v).over ≡ true
  -- "Refusals: after 25 come 31, stretch not inside the order; 26, stretch wholly struck already; 32, a fifth stretch after touching ones are joined."
  pub in_order : (full : Bool) (s : Strike) (b : Ledger) → map (λ (x : Refusal). x.number) (rungs_of full (strike s) b) ≡ 25 ∷ 31 ∷ 26 ∷ 32 ∷ []
  pub not_inside : (c : Stretch) (o : Order) → sticks_out c o ≡ false ↔ (o.start ≤ c.from) × (c.to ≤ o.end)
  pub wholly_struck : (c : Stretch) (o : Order) → formed_in (time_of o) o.struck ≡ true → c.from < c.to
      → is_struck c o ≡ true ↔ ((t : ℕ) → covers t c ≡ true → any (covers t) o.struck ≡ true)
  pub a_fifth : (c : Stretch) (o : Order) → makes_five c o ≡ false ↔ (length (joined c (used_in o.struck)) ≤ 4)
  -- "The saved form 1 refuses a book with a partial strike"; "On saving, 52 after 20 for a partial strike."
  pub partial_unsaved : (b : Book) (room : ℕ) → formed_book b ≡ true → any is_partial (shelf b).orders ≡ true → save_of b room ≡ Refused 52 0
