-- The answer for an order at the front of a text, from what its item tells. Assumes nothing.
use Prim.Native.Nat.{ℕ, suc, ◌+◌, ◌-◌}
use Rattle.book_order.specs.Orders.{empty_order}
use Rattle.book_order.specs.declared.Order.{Order}
use Rattle.saved.proofs.Items.{Whole, whole_item, broken_item}
use Rattle.saved.proofs.Ordering.{Ordered, said_fits}
use Rattle.saved.specs.Orders.{order_from, Instants}
use Rattle.saved.specs.Reads.{read_item}
use Rattle.saved.specs.Saved.{above, read_order, order_read_of}
use Rattle.saved_lines.proofs.Seven.{Seven}
use Rattle.saved_lines.specs.Items.{Lines, read_from, item_of}
use Rattle.saved_lines.specs.Tables.{next_of}
use Rattle.saved_lines.specs.Items.{Item}
use Rattle.saved_lines.specs.declared.Table.TheVariants.{Order as OrderTable}
use lib.ListN.{length, replicate}
use mathlib.Core.Bool.{true, false}
use mathlib.Core.List.{List, [], ◌++◌}
use mathlib.Core.Path.{◌≡◌, ap, ◌∙◌}
use native.Mathlib.Numerals.{add-one}
use native.Mathlib.Omega.{arith}

-- values with zeros after them give the same order
room_order : (vs zeros : List ℕ) (floor least : ℕ) → Seven (above least (suc floor)) vs → order_from (vs ++ zeros) ≡ order_from vs
unfolding order_from
room_order vs zeros floor least q = rw q.are

room_instants : (vs zeros : List ℕ) (floor least : ℕ) → Seven (above least (suc floor)) vs → Instants vs → Instants (vs ++ zeros)
room_instants vs zeros floor least q h = let i = rw q.are at h in rw q.are i

module _ (floor least : ℕ) (s : List ℕ) (x : Item) (told : x ≡ item_of (read_from (next_of OrderTable (above least (floor + 1))) 18 [] s) s) where
  abbrev lines : Lines
  lines = read_from (next_of OrderTable (above least (suc floor))) 18 [] s

  same : x ≡ item_of lines s
  same = told ∙ ap (λ (k : ℕ). item_of (read_from (next_of OrderTable (above least k)) 18 [] s) s) (add-one floor)

  pub bad_order : x.good ≡ false → record { good = false; order = empty_order; lines = x.lines; end = 0 } ≡ order_read_of (read_order floor least 0 s) s
  unfolding read_order read_item
  bad_order n =
      let b = broken_item OrderTable (above least (suc floor)) s x same n in
      let k : x.lines ≡ 0 + x.lines = omega arith in
      rw b.read (λ i. record { good = false; order = empty_order; lines = k i; end = 0 })

  module _ (yes : x.good ≡ true) where
    whole : Whole OrderTable (above least (suc floor)) s x
    whole = whole_item OrderTable (above least (suc floor)) s x same yes

    fits : Ordered floor least whole.values
    fits = said_fits floor least whole.values whole.said

    pub order_instants : Instants x.values
    order_instants =
        rw whole.room
        (room_instants whole.values (replicate (18 - length whole.values) 0) floor least fits.seven_lines fits.instants)

    pub good_order : (o : Order) → o ≡ order_from x.values
        → record { good = true; order = o; lines = x.lines; end = x.end } ≡ order_read_of (read_order floor least 0 s) s
    unfolding read_order read_item
    good_order o e =
        let from : o ≡ order_from whole.values =
        e ∙ ap order_from whole.room ∙ room_order whole.values (replicate (18 - length whole.values) 0) floor least fits.seven_lines in
        let k : x.lines ≡ 0 + length whole.values = omega (arith, whole.count) in
        rw whole.read (λ i. record { good = true; order = from i; lines = k i; end = whole.end i })
