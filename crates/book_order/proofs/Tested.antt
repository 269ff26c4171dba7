-- An order's tests, as the code joins them, are what the definitions say of it. Assumes nothing.
use Prim.Native.Nat.{ℕ, ◌-◌, ◌≤◌, ◌<◌}
use Rattle.book_order.proofs.Joined.{four, seven}
use Rattle.book_order.specs.Orders.{time_of, live, strike_for, could_strike, is_zero, is_empty, fits_layout, could_come, could_hold}
use Rattle.value_bounds.specs.Bounds.{most_number, is_instant, is_amount}
use Rattle.book_order.specs.declared.Order.{Order}
use Rattle.book_stretch.proofs.Joins.{covers_tells}
use Rattle.book_stretch.specs.Stretches.{covers, are_none, formed_in}
use Rattle.book_stretch.specs.declared.Stretch.{Stretch}
use Rattle.layout.specs.Layouts.{is_market}
use Rattle.text.proofs.Tests.{or_parts, untold}
use Rattle.text.proofs.Zeros.{zero_bits}
use Rattle.text.specs.Bytes.{any}
use borrow.Author.Tests.{le-leb, lt-leb, le-ltb, ltb-false, leb-false, not-true, not-false}
use lib.Dec.{eqb, leb, ltb}
use mathlib.Core.Bool.{Bool, true, false, not, ◌&&◌, ◌||◌, false≢true}
use mathlib.Core.Path.{◌≡◌, sym, ap, ◌∙◌}
use mir.Syntax.{w32}
use mir.Val.{SFits, of_z, to_z}
use mir.ValLaws.{to_z-of_z}

-- `s` says whether t is struck
module _ (t : ℕ) (o : Order) where
  pub live_not : (ltb t o.start || leb o.end t) ≡ true → false ≡ live t o
  live_not e =
      rw (untold (covers_tells t (time_of o)) (λ h. false≢true (rw (le-ltb t o.start h.0, lt-leb o.end t h.1) at e)))

  pub live_is : (ltb t o.start || leb o.end t) ≡ false → (s : Bool) → s ≡ any (covers t) o.struck → not s ≡ live t o
  live_is e s told =
      let p = or_parts (ltb t o.start) _ e in
      rw ((covers_tells t (time_of o)).1 (ltb-false t o.start p.0, leb-false o.end t p.1), told)

-- `p` and `q` say whether its start and its end are instants
pub strikes_is : (n : ℕ) (c : Stretch) (p q : Bool) → p ≡ is_instant c.from → q ≡ is_instant c.to
    → ((leb n most_number && p) && q) && ltb c.from c.to ≡ could_strike (strike_for n c)
unfolding could_strike
strikes_is n c p q e f = rw (e, f) (four (leb n most_number) (is_instant c.from) (is_instant c.to) (ltb c.from c.to))

module _ (o : Order) (f : SFits w32 o.first) (s : SFits w32 o.second) where
  -- `m` says whether its layout is the market's, `n` whether nothing of it is struck
  pub empty_is : (m n : Bool) → m ≡ is_market o.layout → n ≡ are_none o.struck
      → (((((eqb o.number 0 && m) && eqb o.start 0) && eqb o.end 0) && eqb (of_z w32 o.first) 0) && eqb (of_z w32 o.second) 0) && n
      ≡ is_empty o
  unfolding is_empty
  empty_is m n e k =
      rw (e, k, zero_bits o.first f, zero_bits o.second s)
      (seven (eqb o.number 0) (is_market o.layout) (eqb o.start 0) (eqb o.end 0) (is_zero o.first) (is_zero o.second) (are_none o.struck))

-- one test after another
pub number_out : (o : Order) → most_number < o.number → false ≡ could_come o
unfolding could_come
number_out o h = rw (lt-leb o.number most_number h)

module _ (o : Order) (n : o.number ≤ most_number) where
  pub start_out : is_instant o.start ≡ false → false ≡ could_come o
  unfolding could_come
  start_out x = rw (le-leb o.number most_number n, x)

  module _ (p : is_instant o.start ≡ true) where
    pub end_out : is_instant o.end ≡ false → false ≡ could_come o
    unfolding could_come
    end_out x = rw (le-leb o.number most_number n, p, x)

    -- `v` says whether the first variation is an amount, `l` whether the rest fits the layout
    module _ (q : is_instant o.end ≡ true) (f : SFits w32 o.first) (v : Bool) (told : v ≡ is_amount (to_z w32 (of_z w32 o.first))) where
      amount : v ≡ is_amount o.first
      amount = told ∙ ap is_amount (to_z-of_z w32 o.first f)

      pub first_out : v ≡ false → false ≡ could_come o
      unfolding could_come
      first_out x = rw (le-leb o.number most_number n, p, q, sym amount ∙ x)

      pub rest_decides : v ≡ true → SFits w32 o.second
          → (l : Bool) → l ≡ fits_layout o.layout (o.end - o.start) (to_z w32 (of_z w32 o.second)) → l ≡ could_come o
      unfolding could_come
      rest_decides x s l e = e ∙ rw (to_z-of_z w32 o.second s, le-leb o.number most_number n, p, q, sym amount ∙ x)

-- `come` says whether some valid CB record gives it, `f` whether what is struck of it is well formed
module _ (o : Order) (come : Bool) (told : come ≡ could_come o) where
  pub hold_not : not come ≡ true → false ≡ could_hold o
  hold_not x = rw (sym told ∙ not-true come x)

  pub hold_is : not come ≡ false → (time : Stretch) → time ≡ time_of o → (f : Bool) → f ≡ formed_in time o.struck → f ≡ could_hold o
  hold_is x time own f e = e ∙ rw (own, sym told ∙ not-false come x)
