-- What an answer that may be refused tells in numbers: 0 where nothing is refused, or the refusal's number and detail.
use Rattle.std.specs.Prelude.{ℕ, Result, Ok, Err}
use Rattle.refusal.specs.Numbers.{number_of, detail_of}
use Rattle.refusal.specs.declared.Refusal.{Refusal}

abbrev pub number_in : {A : Type 0} → Result A Refusal → ℕ
number_in (Ok x) = 0
number_in (Err e) = number_of e

abbrev pub detail_in : {A : Type 0} → Result A Refusal → ℕ
detail_in (Ok x) = 0
detail_in (Err e) = detail_of e
