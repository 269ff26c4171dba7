-- Small plans, each read as document 01 says: one theorem, by computation.
-- Assumes nothing.
use Prim.Native.Nat.{ℕ}
use Prim.Native.String.{String}
use Rattle.plan_row.specs.Rows.{row, type_from, type_at, plan_row_of}
use Rattle.text_keyline.specs.Keylines.{line_of, whole_in, number_at, unit_at}
use Rattle.value_name.specs.Names.{is_unit, sequence_of}
use Rattle.value_name.specs.declared.MessageType.TheVariants.{Rc, Vq}
use Rattle.plan.specs.Plans.{Plan, rows, wrong, plan_from, plan_of}
use Rattle.text.specs.Bytes.{bytes, same, starts, upto, past, any, all}
use Rattle.text.specs.Digits.{number_from, digits_of}
use mathlib.Core.List.{List, [], ◌∷◌, ◌++◌, map}
use mathlib.Core.Path.{◌≡◌, refl}

-- lines, each with its LF
abbrev pub lines : List String → List ℕ
lines [] = []
lines (l ∷ ls) = bytes l ++ 10 ∷ lines ls

-- a plan, and how it reads
pub record Case : Type 0 where
  pub text : List ℕ
  pub reads : Plan

abbrev pub case : List ℕ → Plan → Case
case t p = record { text = t; reads = p }

abbrev pub table : List Case
table =
    case [] (wrong 0)
    ∷ case (lines ("" ∷ [])) (wrong 1)
    ∷ case (lines ("ca=7" ∷ [])) (wrong 2)
    ∷ case (lines ("ca=7" ∷ "ioa=300" ∷ "unit=UP_PROVA_1" ∷ "type=RC" ∷ [])) (rows (row 7 300 (bytes "UP_PROVA_1") Rc ∷ []))
    ∷ case (lines ("ca=7" ∷ "ioa=300" ∷ "unit=UP_PROVA_1" ∷ []) ++ bytes "type=RC") (wrong 4)
    ∷ case (lines ("ca=7" ∷ "ioa=300" ∷ "unit=UP_PROVA_1" ∷ "type=RC" ∷ "" ∷ [])) (wrong 5)
    ∷ case
    (lines ("ca=7" ∷ "ioa=300" ∷ "unit=UP_PROVA_1" ∷ "type=RC" ∷ "ca=7" ∷ "ioa=300" ∷ "unit=UP_PROVA_2" ∷ "type=VQ" ∷ []))
    (wrong 6)
    ∷ case
    (lines ("ca=7" ∷ "ioa=300" ∷ "unit=UP_PROVA_1" ∷ "type=RC" ∷ "ca=7" ∷ "ioa=301" ∷ "unit=UP_PROVA_2" ∷ "type=VQ" ∷ []))
    (rows (row 7 301 (bytes "UP_PROVA_2") Vq ∷ row 7 300 (bytes "UP_PROVA_1") Rc ∷ []))
    ∷ case (lines ("ca=07" ∷ "ioa=300" ∷ "unit=UP_PROVA_1" ∷ "type=RC" ∷ [])) (wrong 1)
    ∷ case (lines ("ca=65535" ∷ "ioa=300" ∷ "unit=UP_PROVA_1" ∷ "type=RC" ∷ [])) (wrong 1)
    ∷ case (lines ("ca=65534" ∷ "ioa=16777216" ∷ "unit=UP_PROVA_1" ∷ "type=RC" ∷ [])) (wrong 2)
    ∷ case (lines ("ca=7" ∷ "ioa=300" ∷ "unit=UP-PROVA-1" ∷ "type=RC" ∷ [])) (wrong 3)
    ∷ case (lines ("ca=7" ∷ "ioa=300" ∷ "unit=UP_PROVA_1" ∷ "type=XX" ∷ [])) (wrong 4)
    ∷ []

pub all_read : map (λ (c : Case). plan_of c.text) table ≡ map (λ (c : Case). c.reads) table
unfolding same starts upto past any all number_from digits_of is_unit sequence_of line_of whole_in number_at unit_at type_from type_at plan_row_of plan_from plan_of
all_read = refl
