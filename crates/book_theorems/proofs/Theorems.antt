-- Demand 3 of the book with its 96 places: the ledger's theorems, carried over. Assumes nothing.
use Prim.Native.Nat.{ℕ, zero, suc, ◌≤◌, ◌<◌}
use Rattle.book.proofs.Formed.{shelf_book}
use Rattle.book.specs.Answers.{call_number, next_of, deed_number, deed_next, fresh_of, found, found_number, asked_as, of_in_force, of_tally, asked_of}
use Rattle.book.specs.Places.{book_of, shelf, zero_book, formed_unit, formed_book, tally_of}
use Rattle.book.specs.declared.Book.{Book}
use Rattle.book_ledger.proofs.Agreement.{agreement, same_answer, same_in_force}
use Rattle.book_ledger.proofs.ByCalls.{by_calls}
use Rattle.book_ledger.proofs.Removal.{removal as ledger_removal, whole_answers as ledger_answers}
use Rattle.book_ledger.specs.Calls.{Call, command, revoke, ask, Deed, deed_of, names}
use Rattle.book_ledger.specs.Demand.{wants_place, whole, left_out, found as found_at, taken, met, struck, other_answers, Revoked, LeftOut}
use Rattle.book_ledger.specs.History.{floor_from, takings, held_by, ledger_of, in_force_by}
use Rattle.book_lists.proofs.Keeping.{All, all_kept, all_weaker}
use Rattle.book_lists.proofs.Least.{least_sort}
use Rattle.book_lists.proofs.Sorting.{length_sort}
use Rattle.book_order.specs.Orders.{number, past_end, next_end}
use Rattle.book_order.specs.declared.Order.{Order}
use Rattle.book_ledger.specs.Keepers.{run, answers}
use Rattle.book_ledger.specs.Ledger.{fresh, answer, in_force, ledgers, accepted}
use Rattle.value_name.specs.Names.{is_unit}
use Rattle.record.specs.declared.Record.{Record}
use Rattle.book_theorems.proofs.Carried.{Carries, carries_formed, same_floor, same_code, carries_step, same_asked, carries_run, same_answers}
use Rattle.book_theorems.proofs.Carried.{same_accepted}
use Rattle.book_theorems.proofs.Fitting.{fits_fresh}
use Rattle.book_theorems.specs.Books.{books, book_for, after, history, Kept}
use Rattle.text.proofs.Tests.{by_test}
use Rattle.text.specs.Bytes.{any}
use Rattle.text.specs.Said.{said}
use borrow.Author.Tests.{eqb-false, ltb-true, ne_eqb}
use lib.Dec.{eqb}
use lib.ListN.{length}
use mathlib.Core.Bool.{true, false, cond}
use mathlib.Core.List.{List, [], ◌∷◌, ◌++◌, map}
use mathlib.Core.Path.{◌≡◌, refl, sym, ap, ◌∙◌}
use native.Mathlib.Omega.{arith}

-- ---- the first half: the book is the one that the calls that it accepted define

pub fresh_carries : (unit : List ℕ) → is_unit unit ≡ true → Carries (book_for unit) (fresh unit)
unfolding fresh_of
fresh_carries unit e = record { is_book = rw (e, book_for); fits = fits_fresh unit e }

pub kept : (unit : List ℕ) (ks : List Call) → is_unit unit ≡ true → Kept unit ks
kept unit ks e =
    let start = fresh_carries unit e in
    let now = carries_run ks start in
    let calls = sym (same_accepted ks start) in
    record {
      formed = carries_formed now;
      answers_so = λ k. same_code now k ∙ same_answer unit ks k ∙ ap (λ (h : List Call). answer k (ledger_of unit (map deed_of h))) calls;
      in_force_so = λ t h.
          same_asked now t (omega (arith, same_floor now))
          ∙ ap found (same_in_force unit ks t ∙ ap (λ (l : List Call). in_force t (ledger_of unit (map deed_of l))) calls);
    }

-- and that order is said by the calls alone, with no stretch joined to another
pub kept_by_calls : (unit : List ℕ) (ks : List Call) → is_unit unit ≡ true → (t : ℕ) → (after unit ks).floor ≤ t
    → (asked_of t (after unit ks)).answer ≡ found (in_force_by t (history unit ks))
kept_by_calls unit ks e t h =
    let start = fresh_carries unit e in
    let calls : floor_from 0 (map deed_of (accepted ks (fresh unit))) ≡ floor_from 0 (history unit ks) =
    ap (λ (l : List Call). floor_from 0 (map deed_of l)) (sym (same_accepted ks start)) in
    (kept unit ks e).in_force_so t h
    ∙ ap found (by_calls t (history unit ks) (omega (arith, h, same_floor (carries_run ks start), (agreement unit ks).floors, calls)))

-- the panel's two numbers are those of the orders that the calls hold
pub kept_panel : (unit : List ℕ) (ks : List Call) → is_unit unit ≡ true
    → ((after unit ks).held ≡ length (held_by (history unit ks))) × ((after unit ks).next ≡ next_end (held_by (history unit ks)))
unfolding book_of
kept_panel unit ks e =
    let start = fresh_carries unit e in
    let now = (carries_run ks start).is_book in
    let calls = ap (λ (l : List Call). held_by (map deed_of l)) (sym (same_accepted ks start)) in
    let orders = (agreement unit ks).helds in
    let held = held_by (map deed_of (accepted ks (fresh unit))) in (
      ap (λ (x : Book). x.held) now ∙ ap length orders ∙ length_sort number [] held ∙ omega (arith, ap length calls),
      ap (λ (x : Book). x.next) now ∙ ap next_end orders ∙ least_sort number (λ (o : Order). o.end) held ∙ ap next_end calls,
    )

-- no order that is held ends at 0
pub held_end : (h : List Deed) → All (λ (o : Order). 0 < o.end) (held_by h)
held_end h =
    all_weaker (λ (o : Order). past_end (floor_from 0 h) o ≡ true) (λ (o : Order). 0 < o.end)
    (λ o e. omega (arith, ltb-true (floor_from 0 h) o.end e)) (held_by h) (all_kept (past_end (floor_from 0 h)) (takings h))

-- ---- for a bad unit the book is all zero, and every call refuses it

zero_malformed : formed_book zero_book ≡ false
unfolding formed_book zero_book formed_unit is_unit
zero_malformed = refl

module _ (unit : List ℕ) (bad : is_unit unit ≡ false) where
  pub bad_malformed : formed_book (book_for unit) ≡ false
  unfolding fresh_of
  bad_malformed = rw (bad, book_for) zero_malformed

  pub bad_step : (k : Call) → next_of k (book_for unit) ≡ book_for unit
  unfolding next_of
  bad_step k = rw bad_malformed

  bad_run : (ks : List Call) → run books ks (book_for unit) ≡ book_for unit
  bad_run [] = refl
  bad_run (k ∷ ks) = ap (run books ks) (bad_step k) ∙ bad_run ks

  pub bad_code : (k : Call) → call_number k (book_for unit) ≡ 20
  unfolding call_number
  bad_code k = rw bad_malformed

  pub unkept : (ks : List Call) (k : Call) → (call_number k (run books ks (book_for unit)) ≡ 20) × (run books ks (book_for unit) ≡ book_for unit)
  unkept ks k = (ap (call_number k) (bad_run ks) ∙ bad_code k, bad_run ks)

-- ---- the question says its list's refusal with the detail 0, or the number of the order in force, whatever the book

pub found_says : (n : ℕ) → of_in_force (found n) ≡ said 0 0 (found_number n)
found_says zero = refl
found_says (suc n) = refl

asked_says : (c n : ℕ) → of_in_force (asked_as c n) ≡ said c 0 (cond (eqb c 0) (found_number n) [])
asked_says zero n = found_says n
asked_says (suc c) n = rw (ne_eqb (suc c) 0 (λ e. omega (arith, e)))

pub asked_refusal : (t : ℕ) (b : Book)
    → of_in_force (asked_of t b).answer ≡ said (call_number (ask t) b) 0 (cond (eqb (call_number (ask t) b) 0) (found_number (in_force t (shelf b))) [])
unfolding asked_of
asked_refusal t b = asked_says (call_number (ask t) b) (in_force t (shelf b))

-- ---- the second half: a command that was taken and later revoked may be left out, with its revocation

module _ (unit : List ℕ) (before between after : List Call) (c v : Record) where
  module _ (q : Revoked books (book_for unit) (names unit) before between after c v) where
    -- no command is taken for a bad unit, so the ledger's run starts with the book's
    start : Carries (book_for unit) (fresh unit)
    start =
        fresh_carries unit (by_test (is_unit unit) (λ e. e)
        (λ e. absurd (eqb-false 20 0 refl (sym (unkept unit e before (command c)).0 ∙ q.was_taken))))

    -- where the ledger's run is at each book that the demand names
    at_command : Carries (found_at books (book_for unit) (names unit) before between after c v)
        (found_at ledgers (fresh unit) (names unit) before between after c v)
    at_command = carries_run before start

    past_command : Carries (taken books (book_for unit) (names unit) before between after c v) (taken ledgers (fresh unit) (names unit) before between after c v)
    past_command = carries_step at_command (command c)

    at_revocation : Carries (met books (book_for unit) (names unit) before between after c v) (met ledgers (fresh unit) (names unit) before between after c v)
    at_revocation = carries_run between past_command

    past_revocation : Carries (struck books (book_for unit) (names unit) before between after c v)
        (struck ledgers (fresh unit) (names unit) before between after c v)
    past_revocation = carries_step at_revocation (revoke v)

    revoked : Revoked ledgers (fresh unit) (names unit) before between after c v
    revoked =
        record {
          was_taken = sym (same_code at_command (command c)) ∙ q.was_taken;
          was_revoked = sym (same_code at_revocation (revoke v)) ∙ q.was_revoked;
          by_name = q.by_name;
          covers_whole = q.covers_whole;
          unnamed_between = q.unnamed_between;
          unnamed_after = q.unnamed_after;
          room_between = ap (any wants_place) (sym (same_answers between past_command)) ∙ q.room_between;
          room_after = ap (any wants_place) (sym (same_answers after past_revocation)) ∙ q.room_after;
        }

  pub removal : Revoked books (book_for unit) (names unit) before between after c v → LeftOut books (book_for unit) (names unit) before between after c v
  removal q =
      let d = ledger_removal unit before between after c v (revoked q) in
      let short = carries_run (left_out books (book_for unit) (names unit) before between after c v) (start q) in
      let long = carries_run (whole books (book_for unit) (names unit) before between after c v) (start q) in
      let others : other_answers books (book_for unit) (names unit) before between after c v
      ≡ other_answers ledgers (fresh unit) (names unit) before between after c v =
      λ i. same_answers before (start q) i ++ (same_answers between (past_command q) i ++ same_answers after (past_revocation q) i) in
      record {
        same_answers = same_answers (left_out books (book_for unit) (names unit) before between after c v) (start q) ∙ d.same_answers ∙ sym others;
        same_floor = same_floor short ∙ d.same_floor ∙ sym (same_floor long);
        same_in_force = λ t h.
            let open' = rw (same_floor long) at h in
            same_asked short t (rw d.same_floor open') ∙ ap found (d.same_in_force t open') ∙ sym (same_asked long t open');
      }

  -- the whole run's answers: those, and 0 to the command and 0 to the revocation
  pub whole_answers : Revoked books (book_for unit) (names unit) before between after c v
      → answers books (whole books (book_for unit) (names unit) before between after c v) (book_for unit)
      ≡ answers books before (book_for unit)
      ++ (0 ∷ (answers books between (taken books (book_for unit) (names unit) before between after c v)
      ++ (0 ∷ answers books after (struck books (book_for unit) (names unit) before between after c v))))
  whole_answers q =
      rw (same_answers before (start q), same_answers between (past_command q), same_answers after (past_revocation q))
      (same_answers (whole books (book_for unit) (names unit) before between after c v) (start q) ∙ ledger_answers unit before between after c v (revoked q))

-- ---- a refused call hands the same book back

pub refused_same : (k : Call) (b : Book) → (call_number k b ≡ 0 → ⊥) → length b.orders ≡ 96 → length b.unit ≡ 16 → next_of k b ≡ b
unfolding call_number next_of
refused_same k b refused h u =
    by_test (formed_book b)
    (λ e. rw (e, ne_eqb (answer k (shelf b)) 0 (rw e at refused)) (sym (shelf_book b h u e)))
    (λ e. rw e)

pub deed_same : (d : Deed) (b : Book) → (deed_number d b ≡ 0 → ⊥) → deed_next d b ≡ b
unfolding deed_next
deed_same d b refused = rw (ne_eqb (deed_number d b) 0 refused)

-- ---- what the tally says

pub tally_says : (b : Book) → of_tally (tally_of b) ≡ cond (formed_book b) (said 0 0 (length (shelf b).orders ∷ [])) (said 20 0 [])
unfolding tally_of
tally_says b = by_test (formed_book b) (λ e. rw e) (λ e. rw e)
