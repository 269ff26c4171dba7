-- The parameter lines of a layout, by its list of labels: which field each is, the first repeat, what is missing, and the column of values.
-- Document 01, "Lines of a message": labels foreign to the type are passed over; every label of the layout stands once. Fields count from 1.
use Rattle.std.specs.Prelude.{ℕ, suc, ◌+◌, eqb, Bool, false, ◌||◌, cond, List, [], ◌∷◌, None, Option, Some}
use Rattle.text_lines.specs.Lines.{Param}
use Rattle.text.specs.Bytes.{same}
use Rattle.text.specs.Lists.{sift}

-- the first of the labels that the text is, from 1: 0 where it is foreign
unfoldable pub place_of : List (List ℕ) → List ℕ → ℕ
place_of [] t = 0
place_of (l ∷ ls) t = cond (same l t) 1 (cond (eqb (place_of ls t) 0) 0 (suc (place_of ls t)))

-- a line of the layout: its field, and its value
pub record Entry : Type 0 where
  pub at : ℕ
  pub value : List ℕ

abbrev pub entry : ℕ → List ℕ → Entry
entry k v = record { at = k; value = v }

-- a foreign label is none
unfoldable pub entry_of : List (List ℕ) → Param → Option Entry
entry_of ls p = cond (eqb (place_of ls p.label) 0) None (Some (entry (place_of ls p.label) p.value))

-- the entries of the layout, from the top
unfoldable pub entries : List (List ℕ) → List Param → List Entry
entries ls ps = sift (entry_of ls) ps

-- the field k has an entry
unfoldable pub stands : ℕ → List Entry → Bool
stands k [] = false
stands k (e ∷ es) = eqb k e.at || stands k es

-- the field of the first repeat from the top, with `seen` above
unfoldable pub again : List Entry → List Entry → Option ℕ
again seen [] = None
again seen (e ∷ es) = cond (stands e.at seen) (Some e.at) (again (e ∷ seen) es)

-- of each field from k on, as many as there are labels, whether it has an entry
unfoldable pub standing : ℕ → List (List ℕ) → List Entry → List Bool
standing k [] es = []
standing k (l ∷ ls) es = stands k es ∷ standing (suc k) ls es

-- how many of them have none
unfoldable pub missing : ℕ → List (List ℕ) → List Entry → ℕ
missing k [] es = 0
missing k (l ∷ ls) es = cond (stands k es) 0 1 + missing (suc k) ls es

-- the value of the field k
unfoldable pub value_at : ℕ → List Entry → List ℕ
value_at k [] = []
value_at k (e ∷ es) = cond (eqb k e.at) e.value (value_at k es)

-- the values of the fields from k on, as many as there are labels
unfoldable pub column : ℕ → List (List ℕ) → List Entry → List (List ℕ)
column k [] es = []
column k (l ∷ ls) es = value_at k es ∷ column (suc k) ls es
