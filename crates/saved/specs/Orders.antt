-- An order as the values of its lines, and back. Document 02, A4: "`number`, `kind` (M or F), `start`, `end`, `var1`, `var2`, `struck` (0 or 1)";
-- "Variations are in thousandths".
use Rattle.std.specs.Prelude.{ℕ, zero, suc, ◌+◌, ◌-◌, ◌≤◌, eqb, ltb, ℤ, pos, negsuc, neg_ℤ, Bool, true, false, cond, List, [], ◌∷◌}
use Rattle.book_order.specs.Orders.{is_whole}
use Rattle.book_order.specs.declared.Order.{Order}
use Rattle.book_stretch.specs.Stretches.{stretch, in_four}
use Rattle.book_stretch.specs.declared.Stretch.{Stretch}
use Rattle.layout.specs.declared.Layout.{Layout}
use Rattle.layout.specs.declared.Layout.TheVariants.{Market, Mfrr, Revocation, Generic, Exclusion, Limitation, Secondary, VoltVar, Rejection, Reserve}
use Rattle.saved_lines.specs.Tables.{at}
use Rattle.saved_lines.specs.Values.{zero_amount}

-- M is 0 and F is 1; no book holds an order of another layout
abbrev pub kind_in : Layout → ℕ
kind_in Market = 0
kind_in Mfrr = 1
kind_in Revocation = 0
kind_in Generic = 0
kind_in Exclusion = 0
kind_in Limitation = 0
kind_in Secondary = 0
kind_in VoltVar = 0
kind_in Rejection = 0
kind_in Reserve = 0

abbrev pub layout_from : ℕ → Layout
layout_from zero = Market
layout_from (suc k) = Mfrr

-- an amount's number: how far it is above -1,000,000,000
abbrev pub raised : ℤ → ℕ
raised (pos n) = zero_amount + n
raised (negsuc n) = zero_amount - suc n

unfoldable pub lowered : ℕ → ℤ
lowered v = cond (ltb v zero_amount) (neg_ℤ (pos (zero_amount - v))) (pos (v - zero_amount))

-- 1 for an order that is struck as a whole. (An order that is struck in part has no text: 52)
abbrev pub struck_in : Bool → ℕ
struck_in true = 1
struck_in false = 0

-- and that is one stretch, from its start to its end
abbrev pub struck_from : ℕ → ℕ → ℕ → List Stretch
struck_from k start end = cond (eqb k 1) (in_four (stretch start end ∷ [])) (in_four [])

-- the values of an order's lines
unfoldable pub values_of : Order → List ℕ
values_of o =
    o.number ∷ kind_in o.layout ∷ o.start ∷ o.end ∷ raised o.first ∷ raised o.second ∷ struck_in (is_whole o) ∷ []

-- the order that has them
unfoldable pub order_from : List ℕ → Order
order_from vs =
    record {
      number = at 0 vs;
      layout = layout_from (at 1 vs);
      start = at 2 vs;
      end = at 3 vs;
      first = lowered (at 4 vs);
      second = lowered (at 5 vs);
      struck = struck_from (at 6 vs) (at 2 vs) (at 3 vs);
    }

-- instants fit 32 bits, and amounts are
abbrev pub Instants : List ℕ → Type 0
Instants vs =
    (at 2 vs ≤ 4294967295) × (at 3 vs ≤ 4294967295) × (1 ≤ at 4 vs) × (at 4 vs ≤ 1999999999) × (1 ≤ at 5 vs) × (at 5 vs ≤ 1999999999)
