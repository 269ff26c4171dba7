-- Places of a file: what the walk keeps of a value is where it begins and ends.
use Rattle.std.specs.Prelude.{ℕ, ◌+◌, ◌≤◌, length, get_or, take, drop, Bool, ◌&&◌, not, cond, List, [], ◌∷◌, map, ◌≡◌, None, Option, Some}
use Rattle.text_lines.specs.declared.Span.{Span}
use Rattle.text_lines.specs.Spellings.{Spelling, opens}
use Rattle.text.specs.Bytes.{part, is, is_plain, is_blank, upto, past, first_of, run_of, trim}

abbrev pub no_span : Span
no_span = record { from = 0; to = 0 }

abbrev pub part_of : List ℕ → Span → List ℕ
part_of file p = part p.from p.to file

-- the place p of a file holds t
pub record HoldsText (file : List ℕ) (p : Span) (t : List ℕ) : Type 0 where
  pub ordered : p.from ≤ p.to
  pub inside : p.to ≤ length file
  pub holds : part_of file p ≡ t

-- the place of a text that begins at a place of the file, without the blanks at its ends
abbrev pub trimmed_at : ℕ → List ℕ → Span
trimmed_at at t = record { from = at + run_of is_blank t; to = at + run_of is_blank t + length (trim t) }

-- the place of the value of a line that begins at a place: what follows its first '=' (61)
abbrev pub value_span : ℕ → List ℕ → Span
value_span at l = trimmed_at (at + first_of 61 l + 1) (past (is 61) l)

-- how many bytes from the start can be printed
abbrev pub not_plain : ℕ → Bool
not_plain b = not (is_plain b)

abbrev pub plain_run : List ℕ → ℕ
plain_run s = length (upto not_plain s)

-- how many bytes the line has that stands first, up to where it ends or to a byte that is not allowed there: a line that opens with an accented label goes on
-- behind its E0
unfoldable pub line_run : List Spelling → List ℕ → ℕ
line_run sp r = cond (opens sp (upto (is 10) r)) (plain_run r + 1 + plain_run (drop (plain_run r + 1) r)) (plain_run r)

-- how many bytes end a line, where no more can be printed: none at the end of the file, LF, CR LF. Bad where that byte is not allowed
unfoldable pub break_of : List ℕ → Option ℕ
break_of [] = Some 0
break_of (b ∷ []) = cond (is 10 b) (Some 1) None
break_of (b ∷ c ∷ cs) = cond (is 10 b) (Some 1) (cond (is 13 b && is 10 c) (Some 2) None)

-- ---- the places of a layout's values, by field: `spans[k]` is the place of the field k, and `spans[0]` is nobody's

abbrev pub span_at : List Span → ℕ → Span
span_at spans k = get_or spans k no_span

-- each of the first n fields has a place in the file
pub record Placed (n : ℕ) (file : List ℕ) (spans : List Span) : Type 0 where
  pub long : length spans ≡ 27
  pub ordered : (k : ℕ) → 1 ≤ k → k ≤ n → (span_at spans k).from ≤ (span_at spans k).to
  pub inside : (k : ℕ) → 1 ≤ k → k ≤ n → (span_at spans k).to ≤ length file

-- the texts of the first n fields
unfoldable pub column_in : ℕ → List ℕ → List Span → List (List ℕ)
column_in n file spans = map (part_of file) (take n (drop 1 spans))
