-- What a strike answers, test by test: 31, 26, 32, or the order with the stretch joined to those that it has. Assumes nothing.
use Prim.Native.Nat.{ℕ, ◌≤◌, ◌<◌}
use Rattle.book_order.specs.Orders.{time_of, Struck, struck_by}
use Rattle.book_order.specs.declared.Order.{Order}
use Rattle.book_stretch.proofs.Joins.{four_whole}
use Rattle.book_stretch.specs.Stretches.{lies, used_in, joined, joined_in}
use Rattle.book_stretch.specs.declared.Joined.{Joined}
use Rattle.book_stretch.specs.declared.Stretch.{Stretch}
use Rattle.text.specs.Bytes.{any}
use borrow.Author.Tests.{lt-ltb, le-ltb, not-true, not-false}
use lib.ListN.{length}
use mathlib.Core.Bool.{Bool, true, false, not}
use mathlib.Core.List.{List}
use mathlib.Core.Path.{◌≡◌, sym, ap, ◌∙◌}

abbrev struck : ℕ → Order → Struck
struck n o = record { number = n; order = o }

-- the order with these stretches
abbrev having : List Stretch → Order → Order
having l o =
    record { number = o.number; layout = o.layout; start = o.start; end = o.end; first = o.first; second = o.second; struck = l }

-- those that it has then
abbrev more : Stretch → Order → List Stretch
more c o = joined c (used_in o.struck)

-- `inside` says whether the stretch lies in the order's time, `held` whether it is struck already; `j` is what joining makes of it, and `r` the answer
module _ (c : Stretch) (o : Order) (time : Stretch) (own : time ≡ time_of o) (inside : Bool) (tested : inside ≡ lies c time) where
  lies_is : lies c (time_of o) ≡ inside
  lies_is = sym (tested ∙ ap (lies c) own)

  pub sticks_out : not inside ≡ true → (r : Struck) → r ≡ struck 31 o → r ≡ struck_by c o
  unfolding struck_by
  sticks_out x r e = e ∙ rw (lies_is ∙ not-true inside x)

  module _ (i : not inside ≡ false) (held : Bool) (seen : held ≡ any (lies c) o.struck) where
    lies_in : lies c (time_of o) ≡ true
    lies_in = lies_is ∙ not-false inside i

    pub struck_already : held ≡ true → (r : Struck) → r ≡ struck 26 o → r ≡ struck_by c o
    unfolding struck_by
    struck_already x r e = e ∙ rw (lies_in, sym seen ∙ x)

    module _ (n : held ≡ false) (j : Joined) (made : j ≡ joined_in c o.struck) where
      counted : j.count ≡ length (more c o)
      unfolding joined_in
      counted = rw made

      pub a_fifth : 4 < j.count → (r : Struck) → r ≡ struck 32 o → r ≡ struck_by c o
      unfolding struck_by
      a_fifth x r e = e ∙ rw (lies_in, sym seen ∙ n, lt-ltb 4 (length (more c o)) (rw counted at x))

      pub struck_now : j.count ≤ 4 → (r : Struck) → r ≡ struck 0 (having j.list o) → r ≡ struck_by c o
      unfolding struck_by joined_in
      struck_now x r e =
          let few = rw counted at x in
          e ∙ rw (made, lies_in, sym seen ∙ n, le-ltb 4 (length (more c o)) few, four_whole (more c o) few)
