-- The parameters of a written file: the labels of a layout, each with its value of a column. Their entries are numbered in order, so none stands twice,
-- none is missing, and the column is the one that was paired. Assumes nothing.
use Rattle.std.specs.Prelude.{None}
use Prim.Native.Nat.{ℕ, suc, ◌+◌, ◌≤◌, ◌<◌}
use Rattle.text_lines.specs.Entries.{Entry, entry, place_of, entry_of, entries, stands, again, missing, value_at, column}
use Rattle.text_lines.specs.Lines.{Param, param}
use Rattle.text.specs.Bytes.{any}
use Rattle.text.specs.Lists.{sift}
use borrow.Author.Tests.{eq-eqb, ne_eqb}
use lib.ListN.{length, get_or}
use mathlib.Core.Bool.{Bool, false, ◌||◌, cond}
use mathlib.Core.List.{List, [], ◌∷◌}
use mathlib.Core.Path.{◌≡◌, refl, ap, ◌∙◌}
use native.Mathlib.Omega.{arith}

-- each label with its value
unfoldable pub paired : List (List ℕ) → List (List ℕ) → List Param
paired [] col = []
paired (l ∷ ls) [] = []
paired (l ∷ ls) (s ∷ col) = param l s ∷ paired ls col

-- what asks the labels alone
pub any_label : (p : List ℕ → Bool) (ls col : List (List ℕ)) → length col ≡ length ls → any (λ (x : Param). p x.label) (paired ls col) ≡ any p ls
unfolding any paired
any_label p [] col n = refl
any_label p (l ∷ ls) [] n = absurd (omega arith)
any_label p (l ∷ ls) (s ∷ col) n = ap (λ (b : Bool). p l || b) (any_label p ls col (omega arith))

-- ---- entries

-- the entries of a column from the field k on
unfoldable pub numbered : ℕ → List (List ℕ) → List Entry
numbered k [] = []
numbered k (s ∷ col) = entry k s ∷ numbered (suc k) col

-- the labels ts are those of ls at k, k + 1, ..
abbrev pub Placed : ℕ → List (List ℕ) → List (List ℕ) → Type 0
Placed k ls ts = (j : ℕ) → j < length ts → place_of ls (get_or ts j []) ≡ k + j

pub entries_are : (k : ℕ) (ls ts col : List (List ℕ)) → 1 ≤ k → Placed k ls ts → length col ≡ length ts → entries ls (paired ts col) ≡ numbered k col
unfolding paired numbered entries entry_of sift
entries_are k ls [] [] h e n = refl
entries_are k ls [] (s ∷ col) h e n = absurd (omega arith)
entries_are k ls (t ∷ ts) [] h e n = absurd (omega arith)
entries_are k ls (t ∷ ts) (s ∷ col) h e n =
    let q : place_of ls t ≡ k = omega (arith, e 0 (omega arith)) in
    rw (q, ne_eqb k 0 (λ (z : k ≡ 0). omega arith))
    (ap (λ (es : List Entry). entry k s ∷ es) (entries_are (suc k) ls ts col (omega arith) (λ j b. omega (arith, e (suc j) (omega arith))) (omega arith)))

-- ---- none stands twice

-- every entry of es is of a field before k
abbrev Before : ℕ → List Entry → Type 0
Before k es = (j : ℕ) → k ≤ j → stands j es ≡ false

before_next : (k : ℕ) (s : List ℕ) (es : List Entry) → Before k es → Before (suc k) (entry k s ∷ es)
unfolding stands
before_next k s es b j h = rw (ne_eqb j k (λ (q : j ≡ k). omega arith)) (b j (omega arith))

again_from : (k : ℕ) (seen : List Entry) (col : List (List ℕ)) → Before k seen → again seen (numbered k col) ≡ None
unfolding again numbered
again_from k seen [] b = refl
again_from k seen (s ∷ col) b = rw (b k (omega arith)) (again_from (suc k) (entry k s ∷ seen) col (before_next k s seen b))

pub none_again : (k : ℕ) (col : List (List ℕ)) → again [] (numbered k col) ≡ None
unfolding stands
none_again k col = again_from k [] col (λ j h. refl)

-- ---- none is missing, and the values: an entry of the field k says nothing of those after it

module _ (k : ℕ) (s : List ℕ) (es : List Entry) where
  missing_past : (j : ℕ) (ls : List (List ℕ)) → k < j → missing j ls (entry k s ∷ es) ≡ missing j ls es
  unfolding missing stands
  missing_past j [] h = refl
  missing_past j (l ∷ ls) h = rw (ne_eqb j k (λ (q : j ≡ k). omega arith)) (ap (λ (n : ℕ). cond (stands j es) 0 1 + n) (missing_past (suc j) ls (omega arith)))

  column_past : (j : ℕ) (ls : List (List ℕ)) → k < j → column j ls (entry k s ∷ es) ≡ column j ls es
  unfolding column value_at
  column_past j [] h = refl
  column_past j (l ∷ ls) h = rw (ne_eqb j k (λ (q : j ≡ k). omega arith)) (ap (λ (c : List (List ℕ)). value_at j es ∷ c) (column_past (suc j) ls (omega arith)))

pub missing_none : (k : ℕ) (ls col : List (List ℕ)) → length col ≡ length ls → missing k ls (numbered k col) ≡ 0
unfolding missing numbered stands
missing_none k [] col n = refl
missing_none k (l ∷ ls) [] n = absurd (omega arith)
missing_none k (l ∷ ls) (s ∷ col) n =
    rw (eq-eqb k k refl) (omega (arith, missing_past k s (numbered (suc k) col) (suc k) ls (omega arith), missing_none (suc k) ls col (omega arith)))

pub column_back : (k : ℕ) (ls col : List (List ℕ)) → length col ≡ length ls → column k ls (numbered k col) ≡ col
unfolding column numbered value_at
column_back k [] [] n = refl
column_back k [] (s ∷ col) n = absurd (omega arith)
column_back k (l ∷ ls) [] n = absurd (omega arith)
column_back k (l ∷ ls) (s ∷ col) n =
    rw (eq-eqb k k refl)
    (ap (λ (c : List (List ℕ)). s ∷ c) (column_past k s (numbered (suc k) col) (suc k) ls (omega arith) ∙ column_back (suc k) ls col (omega arith)))
