-- The entry that takes a unit of a file transfer. Document 02, A2; numbers as for the other two entries: 0 where the file is not whole yet, the
-- length of a file that is whole, else 65,536 times the refusal's number (details are 0).
use Rattle.std.specs.Prelude.{ℕ}
use Rattle.gateway.specs.Entry.{code}
use Rattle.transfer.specs.Collect.{Heard, More, Whole, Refused}

abbrev pub collect_code : Heard → ℕ
collect_code More = 0
collect_code (Whole ca ioa n) = n
collect_code (Refused number) = code number 0
