-- Demand 3's second half, in its words, of any keeper: a run in which a command was taken and later revoked, no other call after the command named its
-- number, and none after it was refused for want of a place; the same run with that command and that revocation left out; and what is the same of them.
use Rattle.std.specs.Prelude.{ℕ, ◌≤◌, eqb, Bool, false, List, ◌∷◌, ◌++◌, ◌≡◌}
use Rattle.book_ledger.specs.Keepers.{Keeper, run, answers}
use Rattle.book_order.specs.Messages.{order_of, strike_of}
use Rattle.book_order.specs.Orders.{Name, name_of}
use Rattle.record.specs.declared.Record.{Record}
use Rattle.text.specs.Bytes.{any}

-- refused for want of a place
abbrev pub wants_place : ℕ → Bool
wants_place a = eqb a 24

-- a keeper, and which of its calls name an order; calls `before` from where it starts, the command of record c, calls `between`, the revocation of
-- record v, calls `after`
module _ (m : Keeper) (start : m.State) (names : Name → m.Call → Bool) (before between after : List m.Call) (c v : Record) where
  abbrev pub whole : List m.Call
  whole = before ++ (m.command c ∷ (between ++ (m.revoke v ∷ after)))

  -- the same run with the command and the revocation left out
  abbrev pub left_out : List m.Call
  left_out = before ++ (between ++ after)

  -- the states of the whole run: where the command finds it and leaves it, where the revocation finds it and leaves it, and at the end
  abbrev pub found : m.State
  found = run m before start

  abbrev pub taken : m.State
  taken = m.step (m.command c) found

  abbrev pub met : m.State
  met = run m between taken

  abbrev pub struck : m.State
  struck = m.step (m.revoke v) met

  abbrev pub end : m.State
  end = run m after struck

  abbrev pub its_name : Name
  its_name = name_of (order_of c)

  -- what is asked of the whole run
  pub record Revoked : Type 0 where
    pub was_taken : m.answer (m.command c) found ≡ 0
    pub was_revoked : m.answer (m.revoke v) met ≡ 0
    pub by_name : (strike_of v).name ≡ its_name
    -- document 02, A6: the second half "now needs the removed revocation to cover the whole order and no other revocation in the run to name that number".
    -- (The latter is `unnamed_between` and `unnamed_after`: a revocation before the command names another order, and nothing is asked of it)
    pub covers_whole : ((strike_of v).over.from ≤ (order_of c).start) × ((order_of c).end ≤ (strike_of v).over.to)
    pub unnamed_between : any (names its_name) between ≡ false
    pub unnamed_after : any (names its_name) after ≡ false
    pub room_between : any wants_place (answers m between taken) ≡ false
    pub room_after : any wants_place (answers m after struck) ≡ false

  -- the answers of the whole run, without those to the command and to the revocation
  abbrev pub other_answers : List ℕ
  other_answers = answers m before start ++ (answers m between taken ++ answers m after struck)

  -- what is the same: every other call's answer, and at the end the floor, and what is in force at every instant not yet closed
  pub record LeftOut : Type 0 where
    pub same_answers : answers m left_out start ≡ other_answers
    pub same_floor : m.floor (run m left_out start) ≡ m.floor (run m whole start)
    pub same_in_force : (t : ℕ) → m.floor (run m whole start) ≤ t → m.in_force t (run m left_out start) ≡ m.in_force t (run m whole start)
