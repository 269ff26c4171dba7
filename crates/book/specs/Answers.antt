-- What a call on a book answers, and the book that it hands back: 20 first, and then as the ledger's call.
use Rattle.std.specs.Prelude.{ℕ, zero, suc, eqb, not, cond, List, [], ◌∷◌, None, Option, Some, Result, Ok, Err}
use Rattle.book.specs.Places.{book_of, shelf, zero_book, formed_book}
use Rattle.book.specs.declared.Answered.{Answered}
use Rattle.book.specs.declared.Book.{Book}
use Rattle.book.specs.declared.Panel.{Panel as TwoNumbers}
use Rattle.book_ledger.specs.Calls.{Call, ask, Deed, could_ask}
use Rattle.book_ledger.specs.Ledger.{fresh, rungs_of, is_full, answer, effect, step, in_force}
use Rattle.refusal.specs.Numbers.{number_of, detail_of}
use Rattle.refusal.specs.Results.{number_in, detail_in}
use Rattle.refusal.specs.declared.Refusal.{Refusal}
use Rattle.value_name.specs.Names.{is_unit}
use Rattle.text.specs.Refusals.{refusal, first_number}
use Rattle.text.specs.Said.{Said, said}

-- what a command, a revocation or a close answers, the number 0 or a refusal's and its detail, and the book that it hands back
pub record Outcome : Type 0 where
  pub number : ℕ
  pub detail : ℕ
  pub book : Book

-- what an answer says
abbrev pub outcome_by : Answered Unit → Outcome
outcome_by x = record { number = number_in x.answer; detail = detail_in x.answer; book = x.book }

-- a call's answer is its number and detail, and all details are 0
abbrev pub outcome : ℕ → Book → Outcome
outcome n b = record { number = n; detail = 0; book = b }

-- 20, the book is malformed; then the call's own
unfoldable pub call_number : Call → Book → ℕ
call_number k b = cond (formed_book b) (answer k (shelf b)) 20

-- a refused call hands the same book back
unfoldable pub next_of : Call → Book → Book
next_of k b = cond (formed_book b) (book_of (step k (shelf b))) b

-- THE DEFINITION: command, revocation and close
abbrev pub outcome_of : Call → Book → Outcome
outcome_of k b = outcome (call_number k b) (next_of k b)

-- ---- what a deed answers that no message brought: 20, 12 no valid message asks for it, and then the deed's own

unfoldable pub deed_number : Deed → Book → ℕ
deed_number d b =
    first_number (refusal 20 0 (not (formed_book b)) ∷ refusal 12 0 (not (could_ask d)) ∷ rungs_of (is_full (shelf b)) d (shelf b))

-- a refused deed hands the same book back
unfoldable pub deed_next : Deed → Book → Book
deed_next d b = cond (eqb (deed_number d b) 0) (book_of (effect d (shelf b))) b

-- THE DEFINITION: hold and strike
abbrev pub deed_outcome_of : Deed → Book → Outcome
deed_outcome_of d b = outcome (deed_number d b) (deed_next d b)

-- ---- a fresh book

-- THE DEFINITION: a fresh book for a unit. 21, the code is bad, with the all-zero book
unfoldable pub fresh_of : List ℕ → Outcome
fresh_of unit = cond (is_unit unit) (outcome 0 (book_of (fresh unit))) (outcome 21 zero_book)

-- ---- how many orders a book holds: 20, or their count

abbrev pub of_tally : Option ℕ → Said
of_tally None = said 20 0 []
of_tally (Some n) = said 0 0 (n ∷ [])

-- ---- the question which order is in force

-- which order is in force: a refusal's number and detail, none, or the order's number
pub data InForce : Type 0 where
  Refused : ℕ → ℕ → InForce
  Nothing : InForce
  Number : ℕ → InForce

-- the answer to that question, and the same book
pub record Asked : Type 0 where
  pub answer : InForce
  pub book : Book

-- what an answer says
abbrev pub in_force_by : Option ℕ → InForce
in_force_by None = Nothing
in_force_by (Some n) = Number n

abbrev pub told_in_force : Result (Option ℕ) Refusal → InForce
told_in_force (Ok x) = in_force_by x
told_in_force (Err e) = Refused (number_of e) (detail_of e)

abbrev pub asked_by : Answered (Option ℕ) → Asked
asked_by x = record { answer = told_in_force x.answer; book = x.book }

-- one more than its number, or 0 for none
abbrev pub found : ℕ → InForce
found zero = Nothing
found (suc n) = Number n

-- and that number, if there is one
abbrev pub found_number : ℕ → List ℕ
found_number zero = []
found_number (suc n) = n ∷ []

-- the number of a refusal: 0 where it is none
abbrev pub asked_as : ℕ → ℕ → InForce
asked_as zero n = found n
asked_as (suc c) n = Refused (suc c) 0

-- what an answer says: a refusal's number and detail, or the number of the order in force, if there is one
abbrev pub of_in_force : InForce → Said
of_in_force (Refused n d) = said n d []
of_in_force Nothing = said 0 0 []
of_in_force (Number n) = said 0 0 (n ∷ [])

-- THE DEFINITION: in force at t; the question hands the same book back
unfoldable pub asked_of : ℕ → Book → Asked
asked_of t b = record { answer = asked_as (call_number (ask t) b) (in_force t (shelf b)); book = b }

-- ---- the panel. Document 02, A7: "The panel shows how many orders are held and when the next one ends"

-- what the panel shows: a refusal's number and detail, or how many orders are held and when the next of them ends
pub data Panel : Type 0 where
  Unshown : ℕ → ℕ → Panel
  Shows : ℕ → ℕ → Panel

-- the panel, and the same book
pub record Shown : Type 0 where
  pub answer : Panel
  pub book : Book

-- what an answer says
abbrev pub told_panel : Result TwoNumbers Refusal → Panel
told_panel (Ok x) = Shows x.held x.next
told_panel (Err e) = Unshown (number_of e) (detail_of e)

abbrev pub shown_by : Answered TwoNumbers → Shown
shown_by x = record { answer = told_panel x.answer; book = x.book }

-- 20, the book is malformed; else the two stored numbers
abbrev pub panel_of : Book → Panel
panel_of b = cond (formed_book b) (Shows b.held b.next) (Unshown 20 0)

-- what that answer says: a refusal's number and detail, or the two numbers
abbrev pub of_panel : Panel → Said
of_panel (Unshown n d) = said n d []
of_panel (Shows held next) = said 0 0 (held ∷ next ∷ [])

-- THE DEFINITION: the panel reads them, and hands the same book back
unfoldable pub shown_of : Book → Shown
shown_of b = record { answer = panel_of b; book = b }
