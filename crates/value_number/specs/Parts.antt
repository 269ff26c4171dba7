-- A number as a part of a list, where it stands in it. Document 01, "Rules across fields": parts of a list are trimmed.
use Rattle.std.specs.Prelude.{ℕ, ◌+◌, eqb, drop, Bool, ◌||◌, cond, List, None, Option, Some, ℤ}
use Rattle.value_number.specs.Number.{plus, minus, number_of}
use Rattle.value_number.specs.declared.NumberAt.{NumberAt}
use Rattle.text.specs.Bytes.{is, upto, skip_end, is_digit, is_blank, first_of, trim}

-- a number that was read, and where its part ends
abbrev pub number_at : ℤ → ℕ → Option NumberAt
number_at v e = Some (record { number = v; end = e })

unfoldable pub ended : Option ℤ → ℕ → Option NumberAt
ended (Some v) e = number_at v e
ended None e = None

-- where the part that starts at a place ends: at the next separator, or with the text
abbrev pub part_end : ℕ → List ℕ → ℕ → ℕ
part_end sep s at = at + first_of sep (drop at s)

-- THE DEFINITION: the number of the part that starts at a place, trimmed, and where that part ends
unfoldable pub part_number : ℕ → List ℕ → ℕ → Option NumberAt
part_number sep s at = ended (number_of (trim (upto (is sep) (drop at s)))) (part_end sep s at)

-- ---- how it is read where it stands

-- a digit, a point (46), a sign (45) or a blank: what may stand in a part that is a number
abbrev pub is_of_number : ℕ → Bool
is_of_number b = is_digit b || eqb b 46 || eqb b 45 || is_blank b

-- what a part has from here on, without the blanks that it ends with
unfoldable pub part_body : ℕ → List ℕ → List ℕ
part_body sep t = skip_end is_blank (upto (is sep) t)

unfoldable pub with_sign : Bool → Option ℕ → Option ℤ
with_sign negative d = cond negative (minus d) (plus d)
