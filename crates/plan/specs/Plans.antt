-- The address plan. Document 01, "Addresses": 1 to 64 rows of four lines; the first bad line is told; a line too many is bad where it stands.
use Rattle.std.specs.Prelude.{ℕ, zero, suc, ◌+◌, eqb, length, replicate, cond, List, [], ◌∷◌, Result, Ok, Err}
use Rattle.plan_row.specs.Rows.{Row, is_at, RowRead, good, bad, plan_row_of}
use Rattle.text_keyline.specs.Keylines.{below}
use Rattle.value_name.specs.declared.MessageType.TheVariants.{Cb}
use Rattle.value_name.specs.declared.MessageType.{MessageType}
use Rattle.plan.specs.declared.Sought.{Sought}
use Rattle.refusal.specs.Numbers.{number_of, detail_of}
use Rattle.refusal.specs.declared.Refusal.{Refusal}
use Rattle.text_room.specs.Rooms.{kept_in}

-- its rows, or its first bad line from 1; 0 if there is no row
pub data Plan : Type 0 where
  rows : List Row → Plan
  wrong : ℕ → Plan

-- what a row gives, with what follows a good one
abbrev pub onward : ℕ → RowRead → (Row → Plan) → Plan
onward n (bad k) next = wrong (n + k)
onward n (good r) next = next r

-- the rows from the line n on, of which there may be `room` more, with those above, last first
unfoldable pub plan_from : ℕ → ℕ → List Row → List ℕ → Plan
plan_from zero n above s = cond (eqb (length s) 0) (rows above) (wrong n)
plan_from (suc room) n above s =
    cond (eqb (length s) 0) (rows above)
    (onward n (plan_row_of above s) (λ r. plan_from room (n + 4) (r ∷ above) (below (below (below (below s))))))

-- THE DEFINITION: a plan. Only the empty text has no row (docs/READINGS.md, "0 if no row").
unfoldable pub plan_of : List ℕ → Plan
plan_of s = cond (eqb (length s) 0) (wrong 0) (plan_from 64 1 [] s)

-- ---- looking an address up. Refusal 13 with the first bad line, refusal 1; number 0 is no refusal.

-- what is said of an address: a refusal's number and detail and the rest zero, or the number 0 with the type and the unit's code in its room
pub record SoughtSaid : Type 0 where
  pub number : ℕ
  pub detail : ℕ
  pub message : MessageType
  pub size : ℕ
  pub unit : List ℕ

abbrev pub sought_refused : ℕ → ℕ → SoughtSaid
sought_refused n d = record { number = n; detail = d; message = Cb; size = 0; unit = replicate 16 0 }

unfoldable pub look_up : ℕ → ℕ → List Row → SoughtSaid
look_up c i [] = sought_refused 1 0
look_up c i (r ∷ rs) =
    cond (is_at c i r) (record { number = 0; detail = 0; message = r.message; size = length r.unit; unit = kept_in 16 r.unit }) (look_up c i rs)

unfoldable pub sought_of : ℕ → ℕ → Plan → SoughtSaid
sought_of c i (wrong n) = sought_refused 13 n
sought_of c i (rows rs) = look_up c i rs

-- ---- what an answer says

abbrev pub said_by : Result Sought Refusal → SoughtSaid
said_by (Ok s) = record { number = 0; detail = 0; message = s.message; size = s.size; unit = s.unit }
said_by (Err e) = sought_refused (number_of e) (detail_of e)
