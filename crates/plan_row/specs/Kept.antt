-- What the functions keep of the rows above and answer for one, by the definitions of a row. No part of what a row means.
use Rattle.std.specs.Prelude.{ℕ, ◌+◌, ◌-◌, ◌*◌, ◌/◌, ◌%◌, leb, length, cond, List, [], map, Err, None, Ok, Option, Result, Some}
use Rattle.plan_row.specs.Rows.{Row, row, RowRead, good, bad}
use Rattle.plan_row.specs.declared.Entry.{Entry}
use Rattle.plan_row.specs.declared.Numbered.{Numbered}
use Rattle.text_keyline.specs.Keylines.{below}
use Rattle.value_name.specs.declared.MessageType.TheVariants.{Cb}
use Rattle.value_name.specs.declared.MessageType.{MessageType}
use Rattle.text.specs.Bytes.{first_of}

-- ---- the rows above: of each only its address is kept, in one number

abbrev pub key_of : ℕ → ℕ → ℕ
key_of c i = c * 16777216 + i

-- 0 is no row's number
abbrev pub sought_key : ℕ → ℕ → ℕ
sought_key c i = cond (leb i 16777215) (key_of c i) 0

abbrev pub rows_of : List ℕ → List Row
rows_of keys = map (λ (k : ℕ). row (k / 16777216) (k % 16777216) [] Cb) keys

-- ---- what is answered for a line and for a row

-- a number's line ends at its LF
abbrev pub numbered : ℕ → ℕ → Option Numbered
numbered n e = Some (record { value = n; end = e })

abbrev pub numbered_of : Option ℕ → List ℕ → Option Numbered
numbered_of (Some n) s = numbered n (first_of 10 s)
numbered_of None s = None

abbrev pub type_read_of : Option MessageType → Option MessageType
type_read_of None = None
type_read_of (Some t) = Some t

-- where the third line of a text begins
abbrev pub third_of : List ℕ → ℕ
third_of s = length s - length (below (below s))

abbrev pub kept_row : List ℕ → Row → Entry
kept_row s r = record {
  key = key_of r.ca r.ioa;
  message = r.message;
  from = third_of s + 5;
  to = third_of s + first_of 10 (below (below s));
  end = length s - length (below (below (below (below s))));
}

abbrev pub row_at_of : List ℕ → RowRead → Result Entry ℕ
row_at_of s (good r) = Ok (kept_row s r)
row_at_of s (bad k) = Err k
