-- Struck stretches. Document 02, A6: "A revocation shall strike from its start to its end. A held order carries up to four struck stretches"; which of them
-- are well formed, and that touching ones are one.
use Rattle.std.specs.Prelude.{ℕ, suc, min, max, eqb, leb, ltb, length, take, Bool, true, ◌&&◌, cond, List, [], ◌∷◌}
use Rattle.book_lists.specs.Keyed.{keep}
use Rattle.book_shelf.specs.Shelf.{packed}
use Rattle.book_stretch.specs.declared.Joined.{Joined}
use Rattle.book_stretch.specs.declared.Stretch.{Stretch}
use Rattle.text.specs.Bytes.{all}

abbrev pub stretch : ℕ → ℕ → Stretch
stretch from to = record { from = from; to = to }

-- ---- one stretch

-- an instant of it: its start is, its end is not
abbrev pub covers : ℕ → Stretch → Bool
covers t c = leb c.from t && ltb t c.to

-- s lies in c
abbrev pub lies : Stretch → Stretch → Bool
lies s c = leb c.from s.from && leb s.to c.to

-- "zero where unused"
abbrev pub no_stretch : Stretch
no_stretch = stretch 0 0

abbrev pub is_none : Stretch → Bool
is_none c = eqb c.from 0 && eqb c.to 0

-- no stretch that is used ends at 0
abbrev pub is_used : Stretch → Bool
is_used c = ltb 0 c.to

-- ---- four places for them

abbrev pub in_four : List Stretch → List Stretch
in_four l = packed no_stretch 4 l

abbrev pub used_in : List Stretch → List Stretch
used_in l = keep is_used l

unfoldable pub are_none : List Stretch → Bool
are_none l = eqb (length l) 4 && all is_none l

-- ---- well formed ones

-- "its start before its end", from `least` on and up to `most`
abbrev pub fits_in : ℕ → ℕ → Stretch → Bool
fits_in least most c = leb least c.from && (ltb c.from c.to && leb c.to most)

-- "in time order, apart": an instant at least lies between one and the next
unfoldable pub apart_from : ℕ → ℕ → List Stretch → Bool
apart_from least most [] = true
apart_from least most (c ∷ l) = cond (is_none c) (all is_none l) (fits_in least most c && apart_from (suc c.to) most l)

-- THE DEFINITION: "each with its start before its end, in time order, apart, inside their order, and zero where unused"
unfoldable pub formed_in : Stretch → List Stretch → Bool
formed_in time l = eqb (length l) 4 && apart_from time.from time.to l

-- ---- joining

-- the least stretch that has both
abbrev pub hull : Stretch → Stretch → Stretch
hull s c = stretch (min s.from c.from) (max s.to c.to)

-- THE DEFINITION: one stretch more among others, "after touching ones are joined"
unfoldable pub joined : Stretch → List Stretch → List Stretch
joined s [] = s ∷ []
joined s (c ∷ l) =
    cond (ltb c.to s.from) (c ∷ joined s l)
    (cond (ltb s.to c.from) (s ∷ c ∷ l)
    (joined (hull s c) l))

-- what the code hands out of it: how many there are, and the first four
unfoldable pub joined_in : Stretch → List Stretch → Joined
joined_in s l = record { count = length (joined s (used_in l)); list = take 4 (in_four (joined s (used_in l))) }
