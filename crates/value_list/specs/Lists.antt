-- ONE way to read a list: a text is cut at a separator, each part is trimmed and read, and there are as many as may be.
-- Document 01, "Rules across fields": parts of a list are trimmed; a malformed list (bad number, or wrong number of parts) is refused.
-- Over any element and any reader of one; the fields' own lists are instances (Forms.antt).
use Rattle.std.specs.Prelude.{ℕ, eqb, length, cond, List, [], ◌∷◌, ◌++◌, None, Option, Some}
use Rattle.text.specs.Bytes.{trim, within}

abbrev pub on_first : ℕ → List (List ℕ) → List (List ℕ)
on_first b [] = []
on_first b (p ∷ ps) = (b ∷ p) ∷ ps

-- the parts between separators: one more than there are separators
unfoldable pub cut_at : ℕ → List ℕ → List (List ℕ)
cut_at sep [] = [] ∷ []
cut_at sep (b ∷ s) = cond (eqb b sep) ([] ∷ cut_at sep s) (on_first b (cut_at sep s))

unfoldable pub cons_read : {A : Type 0} → Option A → Option (List A) → Option (List A)
cons_read (Some a) (Some l) = Some (a ∷ l)
cons_read (Some a) None = None
cons_read None l = None

-- each part trimmed and read: none where one cannot be
unfoldable pub every_of : {A : Type 0} → (List ℕ → Option A) → List (List ℕ) → Option (List A)
every_of read [] = Some []
every_of read (p ∷ ps) = cons_read (read (trim p)) (every_of read ps)

-- least to most of them
unfoldable pub counted : {A : Type 0} → ℕ → ℕ → Option (List A) → Option (List A)
counted least most None = None
counted least most (Some l) = cond (within least most (length l)) (Some l) None

-- THE DEFINITION: least to most elements between separators
unfoldable pub some_of : {A : Type 0} → (List ℕ → Option A) → ℕ → ℕ → ℕ → List ℕ → Option (List A)
some_of read sep least most s = counted least most (every_of read (cut_at sep s))

-- ---- the written form: `;` or `,` without blanks

-- a separator and a text, for each element
unfoldable pub run_text : {A : Type 0} → (A → List ℕ) → ℕ → List A → List ℕ
run_text text sep [] = []
run_text text sep (a ∷ l) = (sep ∷ text a) ++ run_text text sep l

-- the texts with the separator between them
unfoldable pub list_text : {A : Type 0} → (A → List ℕ) → ℕ → List A → List ℕ
list_text text sep [] = []
list_text text sep (a ∷ l) = text a ++ run_text text sep l
