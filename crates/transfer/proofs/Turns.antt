-- The ways through a call: what is refused by the first of the list that holds, and what is taken. Assumes nothing.
use Prim.Native.Nat.{ℕ, ◌+◌}
use Rattle.text.proofs.Tests.{by_test, and_parts}
use Rattle.text.specs.Refusals.{Refusal, refusal, first_holding}
use Rattle.transfer.specs.Said.{ended_by}
use Rattle.refusal.specs.Numbers.{number_of}
use Rattle.refusal.specs.Results.{detail_in}
use Rattle.refusal.specs.declared.Refusal.{Refusal as Refused}
use Rattle.std.specs.Prelude.{Result, Ok, Err}
use Rattle.transfer.specs.Collect.{is_fresh, is_between, is_within, elsewhere, in_turn, summed, met, too_long, refusals_as, onward, heard_of, kept}
use Rattle.transfer.specs.Collect.{taken, dropped, taken_as, kept_as, taken_of, room_after, More, Taken}
use Rattle.transfer.specs.declared.Collector.{Collector}
use Rattle.transfer.specs.contracts.Turn.{the_type}
use Rattle.transfer.specs.declared.Turn.TheVariants.{Fresh, Between, Within}
use Rattle.transfer.specs.declared.Turn.{Turn}
use Rattle.transfer_unit.specs.Units.{told_by, is_other}
use Rattle.transfer_unit.specs.declared.Told.{Told}
use Rattle.transfer_unit.specs.declared.Told.TheVariants.{FileReady, SectionReady, LastSegment, LastSection, Other}
use denote.Enum.Bare.{sameb}
use borrow.Author.Tests.{eqb-true, not-true, not-false}
use lib.Dec.{eqb}
use mathlib.Core.Bool.{Bool, true, false, not, ◌&&◌, or-true}
use mathlib.Core.List.{List, [], ◌∷◌}
use mathlib.Core.Path.{◌≡◌, refl, sym, ap, ap₂, ◌∙◌}

-- ---- the code's tests of a turn

pub fresh_is : (t : Turn) → sameb the_type t Fresh ≡ is_fresh t
fresh_is Fresh = refl
fresh_is Between = refl
fresh_is Within = refl

pub between_is : (t : Turn) → sameb the_type t Between ≡ is_between t
between_is Fresh = refl
between_is Between = refl
between_is Within = refl

pub within_is : (t : Turn) → sameb the_type t Within ≡ is_within t
within_is Fresh = refl
within_is Between = refl
within_is Within = refl

pub unlike : {a b : Bool} → a ≡ b → true ≡ not a → b ≡ false
unlike e h = sym e ∙ not-true _ (sym h)

pub alike : {a b : Bool} → a ≡ b → false ≡ not a → b ≡ true
alike e h = sym e ∙ not-false _ (sym h)

-- a unit of the open section, by the code's two tests
pub open_by : (c : Collector) (i : ℕ) {w n b : Bool} → w ≡ sameb the_type c.turn Within → n ≡ eqb i (c.ended + 1) → (w && n) ≡ b
    → (is_within c.turn && eqb i (c.ended + 1)) ≡ b
open_by c i v k h = sym (ap₂ ◌&&◌ (v ∙ within_is c.turn) k) ∙ h

-- ---- a last unit that is in turn: what is judged of its octets is what the list says

module _ (c : Collector) (file : List ℕ) (u : Told) where
  -- what is answered by the judgement
  abbrev comes_to : Result Unit Refused → Taken
  comes_to (Ok x) = taken (heard_of c u) (onward c [] u)
  comes_to (Err e) = dropped (number_of e) 0

  pub at_end : {r : Result Unit Refused} → in_turn c u ≡ true → r ≡ ended_by (summed c file u) (met c u) (too_long c u)
      → (comes_to r ≡ taken_as c [] file u) × (detail_in r ≡ 0)
  unfolding taken_as
  at_end t e = rw (e, t) (by (summed c file u) (met c u) (too_long c u), plain (summed c file u) (met c u) (too_long c u))
    where
      by : (a b l : Bool)
          → comes_to (ended_by a b l)
          ≡ first_holding dropped (taken (heard_of c u) (onward c [] u))
          (refusal 40 0 (not true) ∷ refusal 41 0 (not a) ∷ refusal 42 0 (not b) ∷ refusal 43 0 l ∷ [])
      by false b l = refl
      by true false l = refl
      by true true true = refl
      by true true false = refl

      plain : (a b l : Bool) → detail_in (ended_by a b l) ≡ 0
      plain false b l = refl
      plain true false l = refl
      plain true true true = refl
      plain true true false = refl

-- a last segment that is in turn names the section after those that have ended
module _ (c : Collector) where
  abbrev ended : ℕ → Taken
  ended j =
      taken More (record { turn = Between; ca = c.ca; ioa = c.ioa; announced = c.announced; ended = j; start = 0; due = 0; count = c.count })

  pub section_ends : (i : ℕ) → (is_within c.turn && eqb i (c.ended + 1)) ≡ true → {r : Taken} → ended (c.ended + 1) ≡ r → ended i ≡ r
  section_ends i o q = ap ended (eqb-true _ _ (and_parts (is_within c.turn) (eqb i (c.ended + 1)) o).1) ∙ q

-- ---- any unit: e, whether it is of another address, and what it says

same_room : (file : List ℕ) (rs : List Refusal) → file ≡ first_holding (λ n d. file) file rs
same_room file [] = refl
same_room file (x ∷ rs) = by_test x.holds (λ e. rw e) (λ e. rw e (same_room file rs))

module _ (c : Collector) (s file : List ℕ) (e : Bool) (other_address : e ≡ elsewhere c s) where
  abbrev Answered : Taken → List ℕ → Type 0
  Answered r room = (r ≡ taken_of c s file) × (room ≡ room_after c s file)

  pub of_another : e ≡ true → {r : Taken} → r ≡ dropped 44 0 → Answered r file
  unfolding taken_of room_after
  of_another h q = (q ∙ rw (← other_address, h, or-true (is_other (told_by s))), rw (← other_address, h, or-true (is_other (told_by s))))

  module _ (t u : Told) (told : t ≡ told_by s) (is : t ≡ u) where
    says : told_by s ≡ u
    says = sym told ∙ is

    pub of_none : u ≡ Other → {r : Taken} → r ≡ dropped 44 0 → Answered r file
    unfolding taken_of room_after
    of_none o q = (q ∙ rw (says, o), rw (says, o))

    module _ (its_own : e ≡ false) (some : is_other u ≡ false) where
      pub goes : {r : Taken} {room : List ℕ} → r ≡ taken_as c s file u → room ≡ kept_as c s file u → Answered r room
      unfolding taken_of taken_as room_after kept_as
      goes q k = (q ∙ rw (says, some, ← other_address, its_own), k ∙ rw (says, some, ← other_address, its_own))

      -- where it brings no octets
      pub goes_still : {r : Taken} → kept c s file u ≡ file → r ≡ taken_as c s file u → Answered r file
      unfolding kept_as
      goes_still k q = goes q (rw k (same_room file (refusals_as c file u)))

-- ---- what goes by neither the unit nor the room is answered so whatever these are

module _ (c : Collector) (s file : List ℕ) {r : Taken} where
  pub file_ready_any : (n : ℕ) → r ≡ taken_as c s [] (FileReady n) → r ≡ taken_as c s file (FileReady n)
  unfolding taken_as
  file_ready_any n e = e

  pub section_ready_any : (i n : ℕ) → r ≡ taken_as c [] [] (SectionReady i n) → r ≡ taken_as c s file (SectionReady i n)
  unfolding taken_as
  section_ready_any i n e = e

  pub last_segment_any : (i k : ℕ) → r ≡ taken_as c [] file (LastSegment i k) → r ≡ taken_as c s file (LastSegment i k)
  unfolding taken_as
  last_segment_any i k e = e

  pub last_section_any : (i k : ℕ) → r ≡ taken_as c [] file (LastSection i k) → r ≡ taken_as c s file (LastSection i k)
  unfolding taken_as
  last_section_any i k e = e
