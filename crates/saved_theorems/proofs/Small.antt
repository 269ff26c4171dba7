-- How long a saved text is at most. Assumes nothing.
use Prim.Native.Nat.{ℕ, ◌*◌, ◌≤◌}
use Rattle.book_ledger.specs.Ledger.{Ledger}
use Rattle.book_order.specs.declared.Order.{Order}
use Rattle.book_theorems.proofs.Fitting.{Fits}
use Rattle.saved.specs.Orders.{values_of}
use Rattle.saved.specs.Saved.{nothing, order_text, orders_text, head_text, text_of}
use Rattle.saved_lines.proofs.Putting.{text_size}
use Rattle.saved_lines.specs.Items.{text_from}
use Rattle.saved_lines.specs.Tables.{next_of}
use Rattle.saved_lines.specs.declared.Table.TheVariants.{Form, Head as HeadTable, Order as OrderTable}
use Rattle.text.proofs.Tests.{and_parts, within_tells}
use Rattle.text.specs.Bytes.{bytes, within}
use Rattle.text_keyline.proofs.Putting.{line_length}
use Rattle.text_keyline.specs.Keylines.{line_text}
use Rattle.value_name.specs.Names.{is_unit}
use lib.ListN.{length, length-append}
use mathlib.Core.Bool.{true}
use mathlib.Core.List.{List, [], ◌∷◌, ◌++◌}
use mathlib.Core.Path.{◌≡◌}
use native.Mathlib.Omega.{arith}

order_small : (o : Order) → length (order_text o) ≤ 133
unfolding values_of
order_small o = omega (arith, text_size (next_of OrderTable nothing) [] (values_of o))

orders_small : (l : List Order) → length (orders_text l) ≤ 133 * length l
orders_small [] = omega arith
orders_small (o ∷ l) = omega (arith, length-append (order_text o) (orders_text l), order_small o, orders_small l)

unit_small : (unit : List ℕ) → is_unit unit ≡ true → length unit ≤ 16
unfolding is_unit
unit_small unit e = ((within_tells 1 16 (length unit)).0 (and_parts (within 1 16 (length unit)) _ e).0).1

head_small : (unit : List ℕ) (floor count : ℕ) → is_unit unit ≡ true → length (head_text unit floor count) ≤ 79
unfolding head_text
head_small unit floor count e =
    let form = text_from (next_of Form nothing) [] (1 ∷ []) in
    let line = line_text (bytes "unit=") unit in
    let head = text_from (next_of HeadTable nothing) [] (floor ∷ count ∷ []) in
    omega (
      arith,
      length-append (form ++ line) head,
      length-append form line,
      text_size (next_of Form nothing) [] (1 ∷ []),
      text_size (next_of HeadTable nothing) [] (floor ∷ count ∷ []),
      line_length (bytes "unit=") unit,
      unit_small unit e,
    )

-- THE THEOREM: 96 orders and what stands above them
pub text_small : (l : Ledger) → Fits l → length (text_of l) ≤ 24576
unfolding text_of
text_small l g =
    let head = head_text l.unit l.floor (length l.orders) in
    omega (
      arith,
      length-append head (orders_text l.orders),
      head_small l.unit l.floor (length l.orders) g.unit_good,
      orders_small l.orders,
      g.room,
    )
