-- What a contract owes, whatever the crate. Document 01, "What each contract owes": every public function states its result and the final bytes of each
-- buffer for all inputs, refusals too; two answers that satisfy it are proved equal.
use Rattle.std.specs.Prelude.{ℕ, List, ◌≡◌}
use contract.Lifetimes.{Lfts}
use denote.Triple.Clauses.{Ended, AtExit}
use denote.Triple.Entry.{Args, Res}

-- two answers that keep a promise are equal
abbrev pub Determines : {A : Type 0} → (A → Type 0) → Type 0
Determines {A} P = (x y : A) → P x → P y → x ≡ y

-- ---- contracts, as callers have them. Of a public function F the toolchain makes from the clauses that stand in the code: `F.Reads.Asked`, what the contract
-- asks of the arguments, and `F.Reads.Learnt`, what it tells of the result and of the parameters at exit. `F.ended` has their types

module _ (f : Ended) where
  -- the lifetimes of what is lent; the arguments, the result, and the parameters at exit
  abbrev pub Lent : Type 0
  Lent = Lfts f.signature.lifetimes

  abbrev pub In : Lent → Type 0
  In κs = Args f.signature κs

  abbrev pub Out : Lent → Type 0
  Out κs = Res f.signature κs

  abbrev pub End : Lent → Type 0
  End κs = AtExit f κs

  abbrev pub Asks : Type 1
  Asks = (κs : Lent) → In κs → Type 0

  abbrev pub Tells : Type 1
  Tells = (κs : Lent) → In κs → Out κs → End κs → Type 0

  -- no caller needs to have tested anything first
  abbrev pub AsksNothing : Asks → Type 0
  AsksNothing asked = (κs : Lent) (a : In κs) → asked κs a

  -- for every input one result at most
  abbrev pub OneResult : Tells → Type 0
  OneResult learnt = (κs : Lent) (a : In κs) → Determines (λ (z : Out κs). (e : End κs) × learnt κs a z e)

  -- for every input one result at most, with the final bytes of the buffer
  abbrev pub OneOutput : ((κs : Lent) → End κs → List ℕ) → Tells → Type 0
  OneOutput buffer learnt =
      (κs : Lent) (a : In κs) → Determines (λ (x : Out κs × List ℕ). (e : End κs) × (x.1 ≡ buffer κs e) × learnt κs a x.0 e)

  -- and of two buffers
  abbrev pub OneOutputs : ((κs : Lent) → End κs → List ℕ) → ((κs : Lent) → End κs → List ℕ) → Tells → Type 0
  OneOutputs first second learnt =
      (κs : Lent) (a : In κs)
      → Determines (λ (x : Out κs × List ℕ × List ℕ). (e : End κs) × (x.1 ≡ first κs e) × (x.2 ≡ second κs e) × learnt κs a x.0 e)

  -- for every input one text at most, where the result is a part of what was lent
  abbrev pub OneText : ((κs : Lent) → Out κs → List ℕ) → Tells → Type 0
  OneText text learnt =
      (κs : Lent) (a : In κs) → Determines (λ (t : List ℕ). (z : Out κs) × (e : End κs) × (t ≡ text κs z) × learnt κs a z e)

  -- those four, of a contract that asks nothing
  abbrev pub Answers : Asks → Tells → Type 0
  Answers asked learnt = AsksNothing asked × OneResult learnt

  abbrev pub Writes : ((κs : Lent) → End κs → List ℕ) → Asks → Tells → Type 0
  Writes buffer asked learnt = AsksNothing asked × OneOutput buffer learnt

  abbrev pub WritesTwo : ((κs : Lent) → End κs → List ℕ) → ((κs : Lent) → End κs → List ℕ) → Asks → Tells → Type 0
  WritesTwo first second asked learnt = AsksNothing asked × OneOutputs first second learnt

  abbrev pub Lends : ((κs : Lent) → Out κs → List ℕ) → Asks → Tells → Type 0
  Lends text asked learnt = AsksNothing asked × OneText text learnt
