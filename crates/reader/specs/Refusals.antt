-- What the reader answers by its list of refusals (text, Refusals): the first that holds, or else the record.
use Rattle.std.specs.Prelude.{ℕ, List, ◌≡◌}
use Rattle.record.specs.Records.{zero_record}
use Rattle.record.specs.declared.Record.{Record}
use Rattle.text.specs.Refusals.{Refusal, first_holding, First}

-- an answer: a refusal's number and detail with the all-zero record, or the number 0 with the record
pub record Answer : Type 0 where
  pub number : ℕ
  pub detail : ℕ
  pub content : Record

abbrev pub refused : ℕ → ℕ → Answer
refused n d = record { number = n; detail = d; content = zero_record }

abbrev pub accepted : Record → Answer
accepted r = record { number = 0; detail = 0; content = r }

-- THE DEFINITION: the first refusal that holds, or else the record
unfoldable pub answer : List Refusal → Record → Answer
answer rs r = first_holding refused (accepted r) rs

-- an answer that is the refusal of the first that holds
pub record IsFirst (rs : List Refusal) (a : Answer) : Type 0 where
  pub which : Refusal
  pub first : First rs which
  pub says : a ≡ refused which.number which.detail
