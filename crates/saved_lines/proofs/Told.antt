-- What an answer says tells which answer it is. Assumes nothing.
use Rattle.std.specs.Prelude.{ℕ, None, Option, Some, Result, Ok, Err}
use Rattle.saved_lines.specs.Items.{Item, item_by}
use Rattle.saved_lines.specs.Values.{Next, Line, Done, next_by}
use Rattle.saved_lines.specs.declared.Item.{Item as ItemRead}
use Rattle.saved_lines.specs.declared.NextLine.{NextLine}
use mathlib.Core.Bool.{cond}
use mathlib.Core.Path.{◌≡◌, refl, sym, ap, ◌∙◌}

line_as : Next → Option NextLine
line_as (Line k x lo hi) = Some (record { key = k; sort = x; least = lo; most = hi })
line_as Done = None

line_back : (x : Option NextLine) → line_as (next_by x) ≡ x
unfolding line_as
line_back (Some l) = refl
line_back None = refl

pub one_line : (x y : Option NextLine) → next_by x ≡ next_by y → x ≡ y
one_line x y e = sym (line_back x) ∙ ap line_as e ∙ line_back y

item_as : Item → Result ItemRead ℕ
item_as x = cond x.good (Ok (record { lines = x.lines; values = x.values; end = x.end })) (Err x.lines)

item_back : (x : Result ItemRead ℕ) → item_as (item_by x) ≡ x
unfolding item_as
item_back (Ok x) = refl
item_back (Err k) = refl

pub one_item : (x y : Result ItemRead ℕ) → item_by x ≡ item_by y → x ≡ y
one_item x y e = sym (item_back x) ∙ ap item_as e ∙ item_back y
