-- Demand 3's second half of a run with restarts: that of the run without them, carried over. Assumes nothing.
use Prim.Native.Nat.{ℕ}
use Rattle.book.specs.Answers.{call_number, next_of, asked_of}
use Rattle.book.specs.declared.Book.{Book}
use Rattle.book_ledger.specs.Calls.{Call, command, revoke, names}
use Rattle.book_ledger.specs.Demand.{wants_place, Revoked, LeftOut}
use Rattle.book_ledger.specs.Keepers.{run, answers}
use Rattle.book_theorems.proofs.Theorems.{removal, bad_step, bad_code, bad_malformed}
use Rattle.book_theorems.specs.Books.{books, book_for}
use Rattle.record.specs.declared.Record.{Record}
use Rattle.saved.specs.Saved.{save_of}
use Rattle.saved_theorems.proofs.Runs.{reached_step, reached_fresh, Alike, turns_alike, woven}
use Rattle.saved_theorems.proofs.Runs.{calls_unnamed, answers_long, woven_places, cut_alike, run_append, answers_append}
use Rattle.saved_theorems.specs.Restart.{Turn, call, restart, turn_next, restarting, calls_of, turn_names, timely}
use Rattle.text.proofs.Tests.{by_test, and_parts}
use Rattle.text.specs.Bytes.{all, any}
use Rattle.value_name.specs.Names.{is_unit}
use lib.ListN.{length}
use mathlib.Core.Bool.{true, false}
use mathlib.Core.List.{List, [], ◌∷◌, ◌++◌}
use mathlib.Core.Path.{◌≡◌, refl, sym, ap, ap₂, ◌∙◌}
use native.Mathlib.Omega.{arith}

-- what holds of all of two lists
all_parts : (ts us : List Turn) → all timely (ts ++ us) ≡ true → (all timely ts ≡ true) × (all timely us ≡ true)
unfolding all
all_parts [] us e = (refl, e)
all_parts (t ∷ ts) us e =
    let p = and_parts (timely t) (all timely (ts ++ us)) e in
    let q = all_parts ts us p.1 in
    (rw p.0 q.0, q.1)

module _ (unit : List ℕ) (good : is_unit unit ≡ true) (before between later : List Turn) (c v : Record)
    (first : all timely before ≡ true) (second : all timely between ≡ true) (third : all timely later ≡ true) where
  abbrev start : Book
  start = book_for unit

  -- where the turns and where the calls find the book, with the command and the revocation
  from_start : Alike before start
  from_start = turns_alike before start (reached_fresh unit good) first

  abbrev found : Book
  found = run restarting before start

  abbrev taken : Book
  taken = next_of (command c) found

  from_taken : Alike between taken
  from_taken = turns_alike between taken (reached_step (command c) found from_start.reached refl) second

  abbrev met : Book
  met = run restarting between taken

  abbrev struck : Book
  struck = next_of (revoke v) met

  from_struck : Alike later struck
  from_struck = turns_alike later struck (reached_step (revoke v) met from_taken.reached refl) third

  abbrev found_by : Book
  found_by = run books (calls_of before) start

  abbrev taken_by : Book
  taken_by = next_of (command c) found_by

  abbrev struck_by : Book
  struck_by = next_of (revoke v) (run books (calls_of between) taken_by)

  taken_same : taken ≡ taken_by
  taken_same = ap (next_of (command c)) from_start.run_is

  met_same : met ≡ run books (calls_of between) taken_by
  met_same = from_taken.run_is ∙ ap (run books (calls_of between)) taken_same

  struck_same : struck ≡ struck_by
  struck_same = ap (next_of (revoke v)) met_same

  -- and without them
  from_found : Alike between found
  from_found = turns_alike between found from_start.reached second

  abbrev passed : Book
  passed = run restarting between found

  passed_same : passed ≡ run books (calls_of between) found_by
  passed_same = from_found.run_is ∙ ap (run books (calls_of between)) from_start.run_is

  from_passed : Alike later passed
  from_passed = turns_alike later passed from_found.reached third

  -- ---- what was asked of the turns is so of the calls

  no_place : (ts : List Turn) (s b : Book) → Alike ts s → s ≡ b → any wants_place (answers restarting ts s) ≡ false
      → any wants_place (answers books (calls_of ts) b) ≡ false
  no_place ts s b a e h =
      woven_places ts (answers books (calls_of ts) b) (answers_long (calls_of ts) b)
      (ap (λ (x : Book). any wants_place (woven ts (answers books (calls_of ts) x))) (sym e) ∙ ap (any wants_place) (sym a.answers_are) ∙ h)

  revoked_by : Revoked restarting start (turn_names unit) before between later c v
      → Revoked books start (names unit) (calls_of before) (calls_of between) (calls_of later) c v
  revoked_by r =
      record {
        was_taken = ap (call_number (command c)) (sym from_start.run_is) ∙ r.was_taken;
        was_revoked = ap (call_number (revoke v)) (sym met_same) ∙ r.was_revoked;
        by_name = r.by_name;
        covers_whole = r.covers_whole;
        unnamed_between = calls_unnamed unit _ between r.unnamed_between;
        unnamed_after = calls_unnamed unit _ later r.unnamed_after;
        room_between = no_place between taken taken_by from_taken taken_same r.room_between;
        room_after = no_place later struck struck_by from_struck struck_same r.room_after;
      }

  -- ---- and what is the same of the calls is so of the turns

  abbrev calls : List Call
  calls = calls_of before ++ (calls_of between ++ calls_of later)

  end_same : run restarting (before ++ (call (command c) ∷ (between ++ (call (revoke v) ∷ later)))) start
      ≡ run books (calls_of before ++ (command c ∷ (calls_of between ++ (revoke v ∷ calls_of later)))) start
  end_same =
      run_append restarting before (call (command c) ∷ (between ++ (call (revoke v) ∷ later))) start
      ∙ run_append restarting between (call (revoke v) ∷ later) taken
      ∙ from_struck.run_is
      ∙ ap (run books (calls_of later)) struck_same
      ∙ sym (run_append books (calls_of before) (command c ∷ (calls_of between ++ (revoke v ∷ calls_of later))) start
      ∙ run_append books (calls_of between) (revoke v ∷ calls_of later) taken_by)

  left_same : run restarting (before ++ (between ++ later)) start ≡ run books calls start
  left_same =
      run_append restarting before (between ++ later) start
      ∙ run_append restarting between later found
      ∙ from_passed.run_is
      ∙ ap (run books (calls_of later)) passed_same
      ∙ sym (run_append books (calls_of before) (calls_of between ++ calls_of later) start
      ∙ run_append books (calls_of between) (calls_of later) found_by)

  -- the answers of turns from two books to which the calls answer alike
  same_woven : (ts : List Turn) (s t b d : Book) → Alike ts s → Alike ts t → s ≡ b → t ≡ d
      → answers books (calls_of ts) b ≡ answers books (calls_of ts) d → answers restarting ts s ≡ answers restarting ts t
  same_woven ts s t b d x y e f h =
      x.answers_are
      ∙ ap (λ (z : Book). woven ts (answers books (calls_of ts) z)) e
      ∙ ap (woven ts) h
      ∙ sym (y.answers_are ∙ ap (λ (z : Book). woven ts (answers books (calls_of ts) z)) f)

  left_out_by : LeftOut books start (names unit) (calls_of before) (calls_of between) (calls_of later) c v
      → LeftOut restarting start (turn_names unit) before between later c v
  left_out_by l =
      let fb = answers books (calls_of before) start in
      let fm = answers books (calls_of between) found_by in
      let fl = answers books (calls_of later) (run books (calls_of between) found_by) in
      let tm = answers books (calls_of between) taken_by in
      let tl = answers books (calls_of later) struck_by in
      let cut : answers books calls start ≡ fb ++ (fm ++ fl) =
      answers_append books (calls_of before) (calls_of between ++ calls_of later) start
      ∙ ap (λ (z : List ℕ). fb ++ z) (answers_append books (calls_of between) (calls_of later) found_by) in
      let one = cut_alike fb (fm ++ fl) fb (tm ++ tl) refl (sym cut ∙ l.same_answers) in
      let long : length fm ≡ length tm = answers_long (calls_of between) found_by ∙ sym (answers_long (calls_of between) taken_by) in
      let two = cut_alike fm fl tm tl long one.1 in
      record {
        same_answers =
            answers_append restarting before (between ++ later) start
            ∙ ap (λ (z : List ℕ). answers restarting before start ++ z)
            (answers_append restarting between later found
            ∙ ap₂ (λ (y z : List ℕ). y ++ z)
            (same_woven between found taken found_by taken_by from_found from_taken from_start.run_is taken_same two.0)
            (same_woven later passed struck (run books (calls_of between) found_by) struck_by from_passed from_struck passed_same struck_same two.1));
        same_floor = ap (λ (b : Book). b.floor) left_same ∙ l.same_floor ∙ sym (ap (λ (b : Book). b.floor) end_same);
        same_in_force = λ t h.
            ap (λ (b : Book). (asked_of t b).answer) left_same
            ∙ l.same_in_force t (rw (sym end_same) h)
            ∙ sym (ap (λ (b : Book). (asked_of t b).answer) end_same);
      }

-- ---- of any unit: where its code is bad no command is taken

bad_turn : (unit : List ℕ) → is_unit unit ≡ false → (t : Turn) → turn_next t (book_for unit) ≡ book_for unit
unfolding save_of
bad_turn unit e (call k) = bad_step unit e k
bad_turn unit e (restart out) = rw (bad_malformed unit e)

bad_turns : (unit : List ℕ) → is_unit unit ≡ false → (ts : List Turn) → run restarting ts (book_for unit) ≡ book_for unit
bad_turns unit e [] = refl
bad_turns unit e (t ∷ ts) = ap (run restarting ts) (bad_turn unit e t) ∙ bad_turns unit e ts

-- THE THEOREM: demand 3's second half, with restarts
pub removed : (unit : List ℕ) (before between later : List Turn) (c v : Record)
    → all timely (before ++ (call (command c) ∷ (between ++ (call (revoke v) ∷ later)))) ≡ true
    → Revoked restarting (book_for unit) (turn_names unit) before between later c v
    → LeftOut restarting (book_for unit) (turn_names unit) before between later c v
unfolding all
removed unit before between later c v e r =
    by_test (is_unit unit)
    (λ y.
    let p = all_parts before (call (command c) ∷ (between ++ (call (revoke v) ∷ later))) e in
    let q = all_parts between (call (revoke v) ∷ later) p.1 in
    left_out_by unit y before between later c v p.0 q.0 q.1
    (removal unit (calls_of before) (calls_of between) (calls_of later) c v (revoked_by unit y before between later c v p.0 q.0 q.1 r)))
    (λ n.
    let z : call_number (command c) (book_for unit) ≡ 0 = ap (call_number (command c)) (sym (bad_turns unit n before)) ∙ r.was_taken in
    absurd (omega (arith, sym (bad_code unit n (command c)) ∙ z)))
