-- An empty place: all zero. Assumes nothing.
use Rattle.book_lists.specs.Keyed.{keep}
use Rattle.book_order.specs.Orders.{past_end, empty_order, is_zero, is_empty}
use Rattle.book_order.specs.declared.Order.{Order}
use Rattle.book_stretch.proofs.Joins.{none_is}
use Rattle.book_stretch.specs.Stretches.{are_none}
use Rattle.layout.proofs.Markets.{market_is}
use Rattle.layout.specs.Layouts.{is_market}
use Rattle.text.proofs.Tests.{and_parts}
use Rattle.text.proofs.Zeros.{zero_tells}
use Rattle.text.specs.Bytes.{all}
use borrow.Author.Tests.{eqb-true, le-ltb}
use lib.Dec.{eqb}
use mathlib.Core.Bool.{true}
use mathlib.Core.List.{List, [], ◌∷◌}
use mathlib.Core.Path.{◌≡◌, refl, ap}
use native.Mathlib.Omega.{arith}

pub empty_is : (o : Order) → is_empty o ≡ true → o ≡ empty_order
unfolding is_empty
empty_is o e =
    let a = and_parts (eqb o.number 0) _ e in
    let b = and_parts (is_market o.layout) _ a.1 in
    let c = and_parts (eqb o.start 0) _ b.1 in
    let d = and_parts (eqb o.end 0) _ c.1 in
    let f = and_parts (is_zero o.first) _ d.1 in
    let g = and_parts (is_zero o.second) _ f.1 in
    λ i. record {
      number = eqb-true o.number 0 a.0 i;
      layout = market_is o.layout b.0 i;
      start = eqb-true o.start 0 c.0 i;
      end = eqb-true o.end 0 d.0 i;
      first = (zero_tells o.first).0 f.0 i;
      second = (zero_tells o.second).0 g.0 i;
      struck = none_is o.struck g.1 i;
    }

pub zero_is : is_empty empty_order ≡ true
unfolding is_empty are_none all
zero_is = refl

pub empty_end : (o : Order) → is_empty o ≡ true → o.end ≡ 0
empty_end o e = ap (λ (x : Order). x.end) (empty_is o e)

-- of empty places none is filled
pub empty_dropped : (l : List Order) → all is_empty l ≡ true → keep (past_end 0) l ≡ []
unfolding all
empty_dropped [] e = refl
empty_dropped (o ∷ l) e =
    let p = and_parts (is_empty o) (all is_empty l) e in
    rw (le-ltb 0 o.end (omega (arith, empty_end o p.0))) (empty_dropped l p.1)
