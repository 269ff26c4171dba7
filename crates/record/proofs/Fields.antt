-- The value of a field is in the cell before its number.
use Prim.Native.Nat.{ℕ, zero, suc, ◌-◌, ◌≤◌, ◌<◌}
use Rattle.record.specs.Records.{cell, cells_of, field_of}
use Rattle.record.specs.declared.Cell.{Cell}
use Rattle.value.specs.declared.Value.{Value}
use Rattle.value.specs.declared.Value.TheVariants.{Blank}
use lib.ListN.{length, get_or, replicate, length-map, get_or-append, get_or-map}
use mathlib.Core.List.{List, map}
use mathlib.Core.Path.{◌≡◌, ap, ◌∙◌}
use native.Mathlib.Omega.{arith}

pub field_at : (cells : List Cell) (k : ℕ) → 1 ≤ k → field_of cells k ≡ (get_or cells (k - 1) (cell Blank)).value
unfolding field_of
field_at cells zero h = absurd (omega (arith, h))
field_at cells (suc k) h =
    let n : suc k - 1 ≡ k = omega arith in
    rw n

-- the value at the place j is that of the field after it
pub field_value_at : (vs : List Value) (j : ℕ) → j < length vs → field_of (cells_of vs) (suc j) ≡ get_or vs j Blank
unfolding field_of cells_of
field_value_at vs j h =
    ap (λ (c : Cell). c.value)
    (get_or-append (map cell vs) (replicate (26 - length vs) (cell Blank)) (cell Blank) j (omega (arith, h, length-map vs cell)) ∙ get_or-map cell vs j Blank)
