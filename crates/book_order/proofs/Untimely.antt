-- An order that ends before it starts is none that comes: no layout has room for it. Assumes nothing.
use Prim.Native.Nat.{◌-◌, ◌<◌}
use Rattle.layout.specs.declared.Layout.{Layout}
use Rattle.layout.specs.declared.Layout.TheVariants.{Market, Mfrr, Revocation, Generic, Exclusion, Limitation, Secondary, VoltVar, Rejection, Reserve}
use Rattle.book_order.specs.Orders.{fits_layout, could_come}
use Rattle.value_bounds.specs.Bounds.{most_number, is_instant, is_amount}
use Rattle.book_order.specs.declared.Order.{Order}
use lib.Dec.{leb}
use lib.IntN.{ℤ}
use mathlib.Core.Bool.{Bool, true, false, ◌&&◌}
use mathlib.Core.Path.{◌≡◌, refl}
use native.Mathlib.Omega.{arith}

no_time : (l : Layout) (second : ℤ) → fits_layout l 0 second ≡ false
no_time Market second = refl
no_time Mfrr second = refl
no_time Revocation second = refl
no_time Generic second = refl
no_time Exclusion second = refl
no_time Limitation second = refl
no_time Secondary second = refl
no_time VoltVar second = refl
no_time Rejection second = refl
no_time Reserve second = refl

last_fails : (a b c d : Bool) → false ≡ a && (b && (c && (d && false)))
last_fails true true true true = refl
last_fails true true true false = refl
last_fails true true false d = refl
last_fails true false c d = refl
last_fails false b c d = refl

pub ends_first : (o : Order) → o.end < o.start → false ≡ could_come o
unfolding could_come
ends_first o h =
    let none : o.end - o.start ≡ 0 = omega (arith, h) in
    rw (none, no_time o.layout o.second)
    (last_fails (leb o.number most_number) (is_instant o.start) (is_instant o.end) (is_amount o.first))
