-- How far values go, by name. Document 01, "Values" and "The book of commands" (what no valid CB record gives).
use Rattle.std.specs.Prelude.{ℕ, ◌-◌, ℤ, pos, negsuc, Bool, ◌&&◌}
use Rattle.text.specs.Bytes.{within}
use Rattle.std.specs.Int.Signed.{le_z}

-- the instants of the first date and of the last: 01-01-2001 00:00:00 L and 31-12-2099 23:59:59 S. (That dates give every instant between them, and no
-- other, is proved: value_instants/proofs/Reach.antt)
abbrev pub first_instant : ℕ
first_instant = 31615200

abbrev pub last_instant : ℕ
last_instant = 3155756399

abbrev pub is_instant : ℕ → Bool
is_instant t = within first_instant last_instant t

-- ten digits
abbrev pub most_number : ℕ
most_number = 9999999999

-- six digits before the point and three after it, in thousandths
abbrev pub most_amount : ℕ
most_amount = 999999999

-- above zero or below it
unfoldable pub is_amount : ℤ → Bool
is_amount v = le_z (negsuc (most_amount - 1)) v && le_z v (pos most_amount)
