-- What the search answers for a row that it found, by what is kept of the row. No part of what a plan means.
use Rattle.std.specs.Prelude.{ℕ, length, List}
use Rattle.plan_row.specs.declared.Entry.{Entry}
use Rattle.plan.specs.declared.Sought.{Sought}
use Rattle.text_room.specs.Rooms.{kept_in}
use Rattle.text.specs.Bytes.{part}

-- what a row with the address gives
abbrev pub found_in : List ℕ → Entry → Sought
found_in s e = record { message = e.message; size = length (part e.from e.to s); unit = kept_in 16 (part e.from e.to s) }
