-- What is read of a text from one of its lines on: what it says, the number of the line that follows and the text from there on; or the number of the
-- first bad line.
use Rattle.std.specs.Prelude.{ℕ, suc, ◌+◌, eqb, length, cond, List, [], None, Option, Some}
use Rattle.saved_lines.specs.Items.{Lines, good as good_lines, bad as bad_line, read_from}
use Rattle.saved_lines.specs.Tables.{next_of}
use Rattle.saved_lines.specs.declared.Above.{Above}
use Rattle.saved_lines.specs.declared.Table.{Table}
use Rattle.text_keyline.specs.Keylines.{below, unit_at}

pub data Read (A : Type 0) : Type 0 where
  good : A → ℕ → List ℕ → Read A
  bad : ℕ → Read A

-- what is read below, with what was read
abbrev pub and_then : {A B : Type 0} → Read A → (A → ℕ → List ℕ → Read B) → Read B
and_then (bad n) f = bad n
and_then (good a n s) f = f a n s

-- "one too many where it stands": nothing may follow
abbrev pub ended : {A : Type 0} → A → ℕ → List ℕ → Read A
ended a n s = cond (eqb (length s) 0) (good a n []) (bad n)

-- an item from line n on
abbrev pub lined : ℕ → Lines → Read (List ℕ)
lined n (good_lines vs rest) = good vs (n + length vs) rest
lined n (bad_line k) = bad (n + k)

unfoldable pub read_item : Table → Above → ℕ → List ℕ → Read (List ℕ)
read_item t a n s = lined n (read_from (next_of t a) 18 [] s)

-- the line of a unit
abbrev pub unit_read : Option (List ℕ) → ℕ → List ℕ → Read (List ℕ)
unit_read None n rest = bad n
unit_read (Some u) n rest = good u (suc n) rest

unfoldable pub read_unit : ℕ → List ℕ → Read (List ℕ)
read_unit n s = unit_read (unit_at s) n (below s)
