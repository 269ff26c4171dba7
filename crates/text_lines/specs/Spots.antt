-- Where the row and the values of a file's fields stand. Document 02, A3: "keep, for each label, only where its value begins and ends". Every line is one of
-- Lines.antt, with the place at which it begins.
use Rattle.std.specs.Prelude.{ℕ, zero, suc, ◌+◌, eqb, length, cond, List, [], ◌∷◌, None, Option, Some}
use Rattle.text.specs.Bytes.{any, is, upto, trim}
use Rattle.text.specs.Lists.{onto, sift}
use Rattle.text_lines.specs.Entries.{place_of}
use Rattle.text_lines.specs.Lines.{is_sep, lines}
use Rattle.text_lines.specs.Places.{no_span, trimmed_at, value_span}
use Rattle.text_lines.specs.Spellings.{Spelling, respell}
use Rattle.text_lines.specs.declared.Span.{Span}

-- ---- lines with their places

-- a line that is no separator: how many separators stand above it, where it begins, and its bytes
pub record LineAt : Type 0 where
  pub above : ℕ
  pub at : ℕ
  pub line : List ℕ

abbrev pub line_at : ℕ → ℕ → List ℕ → LineAt
line_at n at l = record { above = n; at = at; line = l }

-- a separator is none
unfoldable pub line_if : ℕ → ℕ → List ℕ → Option LineAt
line_if n at l = cond (is_sep (trim l)) None (Some (line_at n at l))

-- the lines from a place on, below n separators, each without the CR (13) of a CR LF
unfoldable pub lines_from : ℕ → ℕ → List (List ℕ) → List LineAt
lines_from n at [] = []
lines_from n at (l ∷ ls) =
    onto (line_if n at (upto (is 13) l)) (lines_from (n + cond (is_sep (trim (upto (is 13) l))) 1 0) (at + (length l + 1)) ls)

unfoldable pub lines_in : List ℕ → List LineAt
lines_in file = lines_from 0 0 (lines file)

-- ---- the row: the first line below one separator

unfoldable pub row_span : List LineAt → Span
row_span [] = no_span
row_span (s ∷ ss) = cond (eqb s.above 1) (trimmed_at s.at s.line) (row_span ss)

-- THE DEFINITION: where the row stands
unfoldable pub row_place : List ℕ → Span
row_place file = row_span (lines_in file)

-- ---- the fields of a list of labels

-- the field of a line by its label, in either spelling: 0 where it has none of these
unfoldable pub field_in : List Spelling → List (List ℕ) → List ℕ → ℕ
field_in sp ls l = cond (any (is 61) l) (place_of ls (respell sp (trim (upto (is 61) l)))) 0

-- the place of a field's value
pub record Spot : Type 0 where
  pub at : ℕ
  pub place : Span

abbrev pub spot : ℕ → Span → Spot
spot k p = record { at = k; place = p }

-- 0 is no field
unfoldable pub spot_if : ℕ → Span → Option Spot
spot_if k p = cond (eqb k 0) None (Some (spot k p))

-- of a line that does not stand between the separators
unfoldable pub spot_in : List Spelling → List (List ℕ) → LineAt → Option Spot
spot_in sp ls s = cond (eqb s.above 1) None (spot_if (field_in sp ls s.line) (value_span s.at s.line))

unfoldable pub spots : List Spelling → List (List ℕ) → List LineAt → List Spot
spots sp ls ss = sift (spot_in sp ls) ss

-- the place of the field k: of its first line
unfoldable pub place_at : ℕ → List Spot → Span
place_at k [] = no_span
place_at k (e ∷ es) = cond (eqb k e.at) e.place (place_at k es)

-- of the n fields from k on
unfoldable pub places_from : ℕ → ℕ → List Spot → List Span
places_from zero k es = []
places_from (suc n) k es = place_at k es ∷ places_from n (suc k) es

-- THE DEFINITION: where the value of each field stands, 0..0 where it has no line. The room has 26 fields; the first place is nobody's
unfoldable pub places_in : List Spelling → List (List ℕ) → List ℕ → List Span
places_in sp ls file = no_span ∷ places_from 26 1 (spots sp ls (lines_in file))
