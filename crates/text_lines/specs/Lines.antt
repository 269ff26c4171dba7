-- From a file to its lines, the summary row and the parameter lines. Document 01, "Lines of a message".
-- Bytes: 10 LF, 13 CR, 43 '+', 61 '='.
use Rattle.std.specs.Prelude.{ℕ, suc, ◌+◌, ◌-◌, leb, ltb, eqb, length, Bool, ◌&&◌, ◌||◌, cond, List, [], ◌∷◌, map, None, Option, Some}
use Rattle.text.specs.Bytes.{upto, past, any, all, is, is_plain, trim}
use Rattle.text.specs.Lists.{count, onto, sift}
use Rattle.text_lines.specs.Spellings.{Spelling, respell, label_room}

-- ---- the bytes that a file may hold: 20 to 7E hex, LF, and CR only just before LF

unfoldable pub allowed : ℕ → List ℕ → Bool
allowed b [] = is_plain b || is 10 b
allowed b (c ∷ cs) = is_plain b || is 10 b || (is 13 b && is 10 c)

-- document 02, A1: E0 (224) too, inside the part before its line's first '=' where that part, trimmed, is a label with an accent. How many bytes stand before
-- the first that is not allowed, where n bytes of such a part are left in the line
unfoldable pub allowed_from : List Spelling → ℕ → List ℕ → ℕ
allowed_from sp n [] = 0
allowed_from sp n (b ∷ bs) =
    cond (allowed b bs || (is 224 b && ltb 0 n)) (suc (allowed_from sp (cond (is 10 b) (label_room sp (upto (is 10) bs)) (n - 1)) bs)) 0

-- of a file: all where there is none
unfoldable pub allowed_upto : List Spelling → List ℕ → ℕ
allowed_upto sp file = allowed_from sp (label_room sp (upto (is 10) file)) file

-- ---- lines: each ends at LF or CR LF, and the last may lack it

-- one byte in front of the lines that follow it
abbrev pub push : ℕ → List (List ℕ) → List (List ℕ)
push b [] = (b ∷ []) ∷ []
push b (l ∷ ls) = (b ∷ l) ∷ ls

abbrev pub line_step : ℕ → List (List ℕ) → List (List ℕ)
line_step b ls = cond (is 10 b) ([] ∷ ls) (push b ls)

unfoldable pub lines : List ℕ → List (List ℕ)
lines [] = []
lines (b ∷ bs) = line_step b (lines bs)

-- a line's text: without the CR of a CR LF, and trimmed
unfoldable pub text_of : List ℕ → List ℕ
text_of l = trim (upto (is 13) l)

unfoldable pub texts : List ℕ → List (List ℕ)
texts file = map text_of (lines file)

-- ---- separators: five or more '+' and nothing else

unfoldable pub is_sep : List ℕ → Bool
is_sep t = leb 5 (length t) && all (is 43) t

-- how many separators
unfoldable pub seps : List (List ℕ) → ℕ
seps ts = count is_sep ts

-- a line that is no separator, with the number of separators above it
pub record Marked : Type 0 where
  pub above : ℕ
  pub text : List ℕ

unfoldable pub mark : ℕ → List ℕ → Option Marked
mark n t = cond (is_sep t) None (Some (record { above = n; text = t }))

-- the lines that are no separators, below n separators
unfoldable pub marked : ℕ → List (List ℕ) → List Marked
marked n [] = []
marked n (t ∷ ts) = onto (mark n t) (marked (n + cond (is_sep t) 1 0) ts)

unfoldable pub if_inside : Marked → Option (List ℕ)
if_inside m = cond (eqb m.above 1) (Some m.text) None

unfoldable pub if_outside : Marked → Option (List ℕ)
if_outside m = cond (eqb m.above 1) None (Some m.text)

-- the lines between the first separator and the next
unfoldable pub inside : List (List ℕ) → List (List ℕ)
inside ts = sift if_inside (marked 0 ts)

-- the other lines that are no separators
unfoldable pub outside : List (List ℕ) → List (List ℕ)
outside ts = sift if_outside (marked 0 ts)

-- exactly two separators with exactly one line between: the summary row
unfoldable pub framed : List (List ℕ) → Bool
framed ts = eqb (seps ts) 2 && eqb (length (inside ts)) 1

-- ---- parameter lines: the first '=' divides one; label and value are trimmed. A line without '=' is none

pub record Param : Type 0 where
  pub label : List ℕ
  pub value : List ℕ

abbrev pub param : List ℕ → List ℕ → Param
param l v = record { label = l; value = v }

unfoldable pub param_of : List ℕ → Option Param
param_of t = cond (any (is 61) t) (Some (param (trim (upto (is 61) t)) (trim (past (is 61) t)))) None

-- its label by its plain spelling
abbrev pub respelt : List Spelling → Option Param → Option Param
respelt sp None = None
respelt sp (Some p) = Some (param (respell sp p.label) p.value)

unfoldable pub param_in : List Spelling → List ℕ → Option Param
param_in sp t = respelt sp (param_of t)

unfoldable pub params : List Spelling → List (List ℕ) → List Param
params sp ts = sift (param_in sp) ts
