-- The summary row. Document 01, "The summary row": the body's trimmed values in the order listed by Annex A.34, 2.3 to 2.11, joined by `;` (59).
-- SR's halves are trimmed and stand as two; blank half-bands give two empty values. LB lists the minimum first, the body the maximum.
use Rattle.std.specs.Prelude.{ℕ, get_or, List, [], ◌∷◌, ◌++◌, map}
use Rattle.layout.specs.FieldNumbers.{identifier_no, unit_no, start_no, end_no, readmission_no, maximum_no, minimum_no, reinstatement_no, half_bands_no}
use Rattle.layout.specs.declared.Layout.{Layout}
use Rattle.layout.specs.declared.Layout.TheVariants.{Market, Mfrr, Revocation, Generic, Exclusion, Limitation, Secondary, VoltVar, Rejection, Reserve}
use Rattle.text.specs.Bytes.{is, upto, past, trim}

-- the fields whose values stand in the row, before SR's halves: by number where they are the body's first in its order, and else by name
unfoldable pub row_fields : Layout → List ℕ
row_fields Market =
    1 ∷ 2 ∷ 3 ∷ 4 ∷ 5 ∷ 6 ∷ 7 ∷ 8 ∷ 9 ∷ 10 ∷ 11 ∷ 12 ∷ 13 ∷ 14 ∷ 15 ∷ 16 ∷ 17 ∷ 18 ∷ 19 ∷ 20 ∷ 21 ∷ 22 ∷ 23 ∷ 24 ∷ 25 ∷ 26 ∷ []
row_fields Mfrr = 1 ∷ 2 ∷ 3 ∷ 4 ∷ 5 ∷ 6 ∷ 7 ∷ 8 ∷ 9 ∷ 10 ∷ 11 ∷ 12 ∷ []
row_fields Revocation = 1 ∷ 2 ∷ 3 ∷ 4 ∷ 5 ∷ []
row_fields Generic = 1 ∷ 2 ∷ 3 ∷ 4 ∷ 5 ∷ []
row_fields Exclusion = identifier_no ∷ unit_no ∷ start_no ∷ end_no ∷ readmission_no ∷ []
row_fields Limitation = identifier_no ∷ unit_no ∷ start_no ∷ end_no ∷ minimum_no ∷ maximum_no ∷ reinstatement_no ∷ []
row_fields Secondary = 1 ∷ 2 ∷ 3 ∷ 4 ∷ 5 ∷ []
row_fields VoltVar = 1 ∷ 2 ∷ 3 ∷ 4 ∷ 5 ∷ 6 ∷ 7 ∷ 8 ∷ 9 ∷ 10 ∷ 11 ∷ 12 ∷ 13 ∷ []
row_fields Rejection = 1 ∷ 2 ∷ 3 ∷ 4 ∷ []
row_fields Reserve = 1 ∷ 2 ∷ 3 ∷ 4 ∷ 5 ∷ 6 ∷ 7 ∷ []

-- the text of the field k, from 1, in a column of texts
abbrev pub text_at : List (List ℕ) → ℕ → List ℕ
text_at col k = get_or ([] ∷ col) k []

-- what stands before the first `;` and after it, trimmed
abbrev pub halves : List ℕ → List (List ℕ)
halves v = trim (upto (is 59) v) ∷ trim (past (is 59) v) ∷ []

abbrev pub bands_in : Layout → List (List ℕ) → List (List ℕ)
bands_in Market col = []
bands_in Mfrr col = []
bands_in Revocation col = []
bands_in Generic col = []
bands_in Exclusion col = []
bands_in Limitation col = []
bands_in Secondary col = halves (text_at col half_bands_no)
bands_in VoltVar col = []
bands_in Rejection col = []
bands_in Reserve col = []

-- the values of the row, from the column of the body's trimmed values
unfoldable pub pieces_of : Layout → List (List ℕ) → List (List ℕ)
pieces_of l col = map (text_at col) (row_fields l) ++ bands_in l col

-- ---- texts joined by `;`

unfoldable pub tail_text : List (List ℕ) → List ℕ
tail_text [] = []
tail_text (t ∷ ts) = (59 ∷ t) ++ tail_text ts

unfoldable pub row_text : List (List ℕ) → List ℕ
row_text [] = []
row_text (t ∷ ts) = t ++ tail_text ts

-- THE DEFINITION: the row of a column
unfoldable pub row_of : Layout → List (List ℕ) → List ℕ
row_of l col = row_text (pieces_of l col)
