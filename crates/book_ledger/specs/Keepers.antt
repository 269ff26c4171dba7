-- Whatever keeps a book: what it answers to a call, what it is after it, its floor, and what it says is in force. The ledger of this
-- crate is one, the book with its places (crate book) another; runs of calls and demand 3 are said once, of any.
use Rattle.std.specs.Prelude.{ℕ, eqb, cond, List, [], ◌∷◌}
use Rattle.record.specs.declared.Record.{Record}

pub record Keeper : Type 1 where
  pub State : Type 0
  pub Call : Type 0
  pub command : Record → Call
  pub revoke : Record → Call
  pub answer : Call → State → ℕ
  pub step : Call → State → State
  pub floor : State → ℕ
  pub Found : Type 0
  pub in_force : ℕ → State → Found

-- calls one after another: the state at the end, and the answers
module _ (m : Keeper) where
  abbrev pub run : List m.Call → m.State → m.State
  run [] s = s
  run (k ∷ ks) s = run ks (m.step k s)

  abbrev pub answers : List m.Call → m.State → List ℕ
  answers [] s = []
  answers (k ∷ ks) s = m.answer k s ∷ answers ks (m.step k s)

  -- the calls that were accepted
  abbrev pub accepted : List m.Call → m.State → List m.Call
  accepted [] s = []
  accepted (k ∷ ks) s = cond (eqb (m.answer k s) 0) (k ∷ accepted ks (m.step k s)) (accepted ks (m.step k s))
