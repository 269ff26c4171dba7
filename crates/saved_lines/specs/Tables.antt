-- Which lines an item has. Document 02, A4: "`key=value` lines in fixed order: `form=1`, `unit`, `floor`, `count`, then for each held order, by ascending
-- number, `number`, `kind` (M or F), `start`, `end`, `var1`, `var2`, `struck` (0 or 1)"; an order is judged by what some valid CB record gives, its number
-- by those above it and its end by the floor.
use Rattle.std.specs.Prelude.{ℕ, zero, suc, max, ◌+◌, ◌-◌, length, get_or, List, [], ◌∷◌}
use Rattle.saved_lines.specs.declared.Above.{Above}
use Rattle.saved_lines.specs.Values.{zero_amount, Next, Line, Done}
use Rattle.saved_lines.specs.declared.Key.{Key}
use Rattle.saved_lines.specs.declared.Key.TheVariants.{Form as FormKey, Floor, Count, Number, Kind, Start, End, Var1, Var2, Struck}
use Rattle.saved_lines.specs.declared.Sort.TheVariants.{Whole, Amount, Letter}
use Rattle.saved_lines.specs.declared.Table.{Table}
use Rattle.saved_lines.specs.declared.Table.TheVariants.{Form, Head, Order}
use Rattle.value_bounds.specs.Bounds.{first_instant, last_instant, most_number, most_amount}

-- the value of the line i above, from 0
abbrev pub at : ℕ → List ℕ → ℕ
at i vs = get_or vs i 0

-- how far start and end are apart at least, by the kind: a second, mFRR two
abbrev pub apart_of : ℕ → ℕ
apart_of zero = 1
apart_of (suc k) = 2

-- any amount, as its number
abbrev pub amount_line : Key → Next
amount_line k = Line k Amount 1 (zero_amount + most_amount)

-- the second variation, by the kind: mFRR has one, and 0 stands for the second
abbrev pub second_line : ℕ → Next
second_line zero = amount_line Var2
second_line (suc k) = Line Var2 Amount zero_amount zero_amount

abbrev pub form_lines : List Next
form_lines = Line FormKey Whole 1 1 ∷ []

abbrev pub head_lines : List Next
head_lines = Line Floor Whole 0 4294967295 ∷ Line Count Whole 0 96 ∷ []

abbrev pub order_lines : Above → List ℕ → List Next
order_lines a vs =
    Line Number Whole a.least most_number
    ∷ Line Kind Letter 0 1
    ∷ Line Start Whole first_instant (last_instant - apart_of (at 1 vs))
    ∷ Line End Whole (max a.end (at 2 vs + apart_of (at 1 vs))) last_instant
    ∷ amount_line Var1
    ∷ second_line (at 1 vs)
    ∷ Line Struck Whole 0 1
    ∷ []

abbrev pub lines_of : Table → Above → List ℕ → List Next
lines_of Form a vs = form_lines
lines_of Head a vs = head_lines
lines_of Order a vs = order_lines a vs

-- THE DEFINITION: the line that comes after those with the values vs
abbrev pub next_of : Table → Above → List ℕ → Next
next_of t a vs = get_or (lines_of t a vs) (length vs) Done
