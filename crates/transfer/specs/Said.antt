-- What the collector's functions answer, said in the definition's words: a refusal by its number (crate refusal).
use Rattle.std.specs.Prelude.{Bool, true, false, Option, Some, None, Result, Ok, Err}
use Rattle.refusal.specs.Numbers.{number_of}
use Rattle.refusal.specs.declared.Refusal.TheVariants.{WrongSum, WrongLength, TooLong}
use Rattle.refusal.specs.declared.Refusal.{Refusal}
use Rattle.transfer.specs.Collect.{Heard, More, Whole, Refused, Taken, taken}
use Rattle.transfer.specs.declared.Taken.{Taken as Answer}
use Rattle.transfer.specs.declared.Whole.{Whole as File}

abbrev pub heard_by : Result (Option File) Refusal → Heard
heard_by (Ok None) = More
heard_by (Ok (Some f)) = Whole f.ca f.ioa f.size
heard_by (Err e) = Refused (number_of e)

abbrev pub taken_by : Answer → Taken
taken_by t = taken (heard_by t.heard) t.collector

-- at a last unit, in the list's order: whether the checksum agrees, whether the announced length is met, whether more than 8,192 are collected
abbrev pub ended_by : Bool → Bool → Bool → Result Unit Refusal
ended_by false met long = Err WrongSum
ended_by true false long = Err WrongLength
ended_by true true true = Err TooLong
ended_by true true false = Ok tt
