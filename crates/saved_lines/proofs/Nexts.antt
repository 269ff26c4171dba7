-- Each arm of the tables as the entry at its number, with the values above read from their room. Assumes nothing.
use Prim.Native.Nat.{ℕ, zero, suc, max, ◌+◌, ◌-◌, ◌≤◌}
use Rattle.saved_lines.specs.Tables.{apart_of, second_line, order_lines, lines_of, next_of}
use Rattle.saved_lines.specs.Values.{zero_amount}
use Rattle.saved_lines.specs.declared.Above.{Above}
use Rattle.saved_lines.specs.declared.Key.TheVariants.{Start, End, Var2}
use Rattle.saved_lines.specs.Values.{Next, Line, Done}
use Rattle.saved_lines.specs.declared.Sort.TheVariants.{Whole, Amount}
use Rattle.saved_lines.specs.declared.Table.{Table}
use Rattle.value_bounds.specs.Bounds.{first_instant, last_instant}
use lib.ListN.{length, get_or, take}
use lib.Seq.{get_or-take, length-take-le}
use mathlib.Core.List.{List}
use mathlib.Core.Path.{◌≡◌, refl, sym, ap, ◌∙◌}
use native.Mathlib.Omega.{arith}

-- ---- by the kind

pub apart_two : (kind : ℕ) → (kind ≡ 0 → ⊥) → 2 ≡ apart_of kind
apart_two zero n = absurd (n refl)
apart_two (suc k) n = refl

pub apart_most : (kind : ℕ) → apart_of kind ≤ 2
apart_most zero = omega arith
apart_most (suc k) = omega arith

pub no_second : (kind : ℕ) → (kind ≡ 0 → ⊥) → Line Var2 Amount zero_amount zero_amount ≡ second_line kind
no_second zero n = absurd (n refl)
no_second (suc k) n = refl

-- ---- the arms of an order

-- the arm of the number k
pub arm : {r : Next} (a : Above) (v : List ℕ) {n : ℕ} (k : ℕ) → n ≡ k → r ≡ get_or (order_lines a (take k v)) k Done → r ≡ get_or (order_lines a (take n v)) n Done
arm a v k e m = m ∙ ap (λ (j : ℕ). get_or (order_lines a (take j v)) j Done) (sym e)

pub start_arm : (a : Above) (v : List ℕ) (n apart : ℕ) → n ≡ 2 → apart ≡ apart_of (get_or v 1 0)
    → Line Start Whole first_instant (last_instant - apart) ≡ get_or (order_lines a (take n v)) n Done
start_arm a v n apart e h = arm a v 2 e (rw (h, get_or-take 2 v 1 0 (omega arith)))

pub end_arm : (a : Above) (v : List ℕ) (n apart least : ℕ) → n ≡ 3 → apart ≡ apart_of (get_or v 1 0) → least ≡ max a.end (get_or v 2 0 + apart)
    → Line End Whole least last_instant ≡ get_or (order_lines a (take n v)) n Done
end_arm a v n apart least e h m = arm a v 3 e (rw (m, h, get_or-take 3 v 1 0 (omega arith), get_or-take 3 v 2 0 (omega arith)))

pub second_arm : (a : Above) (v : List ℕ) (n : ℕ) (r : Next) → n ≡ 5 → r ≡ second_line (get_or v 1 0) → r ≡ get_or (order_lines a (take n v)) n Done
second_arm a v n r e h = arm a v 5 e (rw (h, get_or-take 5 v 1 0 (omega arith)))

-- ---- a table's line is the one after as many as there are values

pub next_line : (t u : Table) (a : Above) (v : List ℕ) (n : ℕ) (r : Next) → length v ≡ 18 → n ≤ 18 → t ≡ u → r ≡ get_or (lines_of u a (take n v)) n Done
    → r ≡ next_of t a (take n v)
next_line t u a v n r l h e m = rw (e, length-take-le n v (omega (arith, l, h))) m
