-- A set of small numbers as the bits of one: which fields of a layout were seen.
use Rattle.std.specs.Prelude.{ℕ, ◌+◌, ◌*◌, Bool, cond, List, [], ◌∷◌}
use Rattle.text.specs.Lists.{count}

abbrev pub bit : Bool → ℕ
bit b = cond b 1 0

-- the number whose bits, from the lowest, are these
unfoldable pub mask_of : List Bool → ℕ
mask_of [] = 0
mask_of (b ∷ bs) = bit b + 2 * mask_of bs

-- how many are true
abbrev pub trues : List Bool → ℕ
trues bs = count (λ (b : Bool). b) bs
