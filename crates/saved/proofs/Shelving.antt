-- The text of a book, put line by line: an order's, those above the orders, and the loop over the orders. Assumes nothing.
use Prim.Native.Nat.{ℕ, zero, suc, ◌+◌, ◌*◌, ◌≤◌, ◌<◌}
use Rattle.book.proofs.Formed.{formed_tells}
use Rattle.book.proofs.Holding.{Holding}
use Rattle.book.specs.Places.{shelf}
use Rattle.book.specs.declared.Book.{Book}
use Rattle.book_order.specs.Orders.{could_come}
use Rattle.book_order.specs.declared.Order.{Order}
use Rattle.book_places.proofs.Leading.{fits_facts, leading_long, kept_leading}
use Rattle.book_places.specs.Places.{past_order, order_at, fits_after, leading}
use Rattle.saved.proofs.Valued.{seven_first, small_room}
use Rattle.saved.specs.Orders.{values_of}
use Rattle.saved.specs.Saved.{nothing, order_text, orders_text, head_text, text_of}
use Rattle.saved_lines.proofs.Putting.{text_size}
use Rattle.saved_lines.specs.Items.{text_from}
use Rattle.saved_lines.specs.Tables.{next_of}
use Rattle.saved_lines.specs.Values.{Small}
use Rattle.saved_lines.specs.declared.Table.TheVariants.{Form, Head as HeadTable, Order as OrderTable}
use Rattle.text.proofs.Runs.{Run, puts, puts_none, then, same_puts}
use Rattle.text.proofs.Tests.{by_test}
use Rattle.text.specs.Bytes.{bytes}
use Rattle.text.specs.Puts.{limit, Puts, room_of}
use Rattle.text_keyline.proofs.Putting.{line_length}
use Rattle.text_keyline.specs.Keylines.{line_text}
use lib.ListN.{length, take, replicate, length-append, length-take}
use lib.Seq.{length-take-le, take-suc}
use mathlib.Core.Bool.{true}
use mathlib.Core.List.{List, [], ◌∷◌, ◌++◌, append-nil, append_assoc}
use mathlib.Core.Path.{◌≡◌, refl, sym, ap, ◌∙◌}
use native.Mathlib.Numerals.{add-one}
use native.Mathlib.Omega.{arith}

-- ---- one order

pub order_put : (o : Order) (v : List ℕ) → v ≡ room_of 18 (values_of o) → (buffer : List ℕ) (at r : ℕ) (after : List ℕ)
    → Puts buffer at (text_from (next_of OrderTable nothing) [] (take 7 v)) r after → Puts buffer at (order_text o) r after
order_put o v e buffer at r after p = same_puts (order_text o) (ap (text_from (next_of OrderTable nothing) []) (seven_first o v e)) (puts p)

order_size : (o : Order) → length (order_text o) ≤ 133
unfolding values_of
order_size o = text_size (next_of OrderTable nothing) [] (values_of o)

orders_size : (l : List Order) → length (orders_text l) ≤ 133 * length l
orders_size [] = omega arith
orders_size (o ∷ l) = omega (arith, length-append (order_text o) (orders_text l), order_size o, orders_size l)

-- ---- the lines above the orders

abbrev form_text : List ℕ
form_text = text_from (next_of Form nothing) [] (1 ∷ [])

abbrev count_text : ℕ → ℕ → List ℕ
count_text floor count = text_from (next_of HeadTable nothing) [] (floor ∷ count ∷ [])

pub form_small : Small (1 ∷ replicate 17 0)
unfolding room_of
form_small = small_room 18 (1 ∷ []) (omega arith, tt)

pub head_small : (floor count : ℕ) → floor ≤ 4294967295 → count ≤ 96 → Small (floor ∷ count ∷ replicate 16 0)
unfolding room_of
head_small floor count f c = small_room 18 (floor ∷ count ∷ []) (omega (arith, f), (omega (arith, c), tt))

-- where the unit's line begins and ends
module _ (buffer : List ℕ) (a : ℕ) (l : List ℕ) (first : Puts buffer 0 form_text a l) where
  unit_place : a ≤ 19
  unit_place = omega (arith, first.0, text_size (next_of Form nothing) [] (1 ∷ []))

  module _ (unit v : List ℕ) (size : ℕ) (u : v ≡ take size unit) (wide : length unit ≡ 16) where
    unit_size : length v ≤ 16
    unit_size = omega (arith, ap length u, length-take size unit, wide)

    pub unit_room : a + 5 + length v + 1 < limit
    unit_room = omega (arith, unit_place, unit_size)

    pub below_unit : (b : ℕ) (m : List ℕ) → Puts l a (line_text (bytes "unit=") v) b m → b + 400 < limit
    below_unit b m second = omega (arith, unit_place, unit_size, second.0, line_length (bytes "unit=") v)

    pub head_put : (b : ℕ) (m : List ℕ) → Puts l a (line_text (bytes "unit=") v) b m → (floor count r : ℕ) (after : List ℕ)
        → Puts m b (count_text floor count) r after → Puts buffer 0 (head_text (take size unit) floor count) r after
    unfolding head_text
    head_put b m second floor count r after third =
        same_puts _ (ap (λ (x : List ℕ). form_text ++ line_text (bytes "unit=") x ++ count_text floor count) u)
        (then (then (puts {t = form_text} first) (puts {t = line_text (bytes "unit=") v} second)) (puts {t = count_text floor count} third))

head_size : (unit : List ℕ) (floor count : ℕ) → length (head_text unit floor count) ≤ length unit + 64
unfolding head_text
head_size unit floor count =
    let line = line_text (bytes "unit=") unit in
    omega (
      arith,
      length-append (form_text ++ line) (count_text floor count),
      length-append form_text line,
      line_length (bytes "unit=") unit,
      text_size (next_of Form nothing) [] (1 ∷ []),
      text_size (next_of HeadTable nothing) [] (floor ∷ count ∷ []),
    )

-- ---- the loop over the orders

-- each of the leading orders could come
leading_come : (f lo : ℕ) (l : List Order) (i : ℕ) → i < leading f lo l → could_come (order_at i l) ≡ true
unfolding leading
leading_come f lo [] i h = absurd (omega arith)
leading_come f lo (o ∷ l) zero h = by_test (fits_after f lo o) (λ e. (fits_facts f lo o e).2) (λ e. absurd (let k : 0 < 0 = rw e at h in omega arith))
leading_come f lo (o ∷ l) (suc i) h =
    by_test (fits_after f lo o)
    (λ e. let k : suc i < suc (leading f (suc o.number) l) = rw e at h in leading_come f (suc o.number) l i (omega (arith, k)))
    (λ e. absurd (let k : suc i < 0 = rw e at h in omega arith))

module _ (b : Book) (count : ℕ) (held : Holding b count) where
  size : length (take count b.orders) ≡ count
  size = length-take-le count b.orders (omega (arith, held.few, held.size.long))

  all_leading : count ≡ leading b.floor 0 b.orders
  unfolding shelf
  all_leading =
      let n = leading b.floor 0 b.orders in
      sym size
      ∙ ap length (sym held.held ∙ kept_leading b.floor 0 b.orders ((formed_tells b).0 held.formed).places_good)
      ∙ length-take-le n b.orders (leading_long b.floor 0 b.orders)

  pub order_come : (i : ℕ) → i < count → could_come (order_at i b.orders) ≡ true
  order_come i h = leading_come b.floor 0 b.orders i (omega (arith, h, all_leading))

-- the text of the first i orders, put after what stands above them
pub record Shelved (above : List ℕ) (at : ℕ) (b : Book) (count i p : ℕ) (out : List ℕ) : Type 0 where
  pub few : i ≤ count
  pub so_far : Run above at (orders_text (take i b.orders)) p out

pub none_shelved : (above : List ℕ) (at : ℕ) (b : Book) (count : ℕ) → Shelved above at b count 0 at above
none_shelved above at b count = record { few = omega arith; so_far = puts_none above at }

orders_next : (l : List Order) (o : Order) → orders_text (l ++ (o ∷ [])) ≡ orders_text l ++ order_text o
orders_next [] o = append-nil (order_text o)
orders_next (x ∷ l) o = ap (λ (t : List ℕ). order_text x ++ t) (orders_next l o) ∙ sym (append_assoc (order_text x) (orders_text l) (order_text o))

module _ (b : Book) (count : ℕ) (held : Holding b count) (above : List ℕ) (at i p : ℕ) (out : List ℕ) (g : Shelved above at b count i p out) where
  abbrev order : Order
  order = order_at i b.orders

  pub next_shelved : i < count → (r : ℕ) (after : List ℕ) → Puts out p (order_text order) r after → Shelved above at b count (i + 1) r after
  next_shelved h r after w =
      let inside : i < length b.orders = omega (arith, h, held.few, held.size.long) in
      let one : take (i + 1) b.orders ≡ take i b.orders ++ (order ∷ []) = rw (add-one i) (take-suc b.orders i past_order inside) in
      let t : orders_text (take i b.orders) ++ order_text order ≡ orders_text (take (i + 1) b.orders) =
      sym (orders_next (take i b.orders) order) ∙ ap orders_text (sym one) in
      record { few = omega (arith, h); so_far = rw t at (then {u = order_text order} g.so_far (puts w)) }

  module _ (buffer : List ℕ) (top : Puts buffer 0 (head_text (take b.size b.unit) b.floor count) at above) where
    pub next_place : i < count → p + 400 < limit
    next_place h =
        omega (
          arith,
          top.0,
          head_size (take b.size b.unit) b.floor count,
          length-take b.size b.unit,
          held.size.wide,
          g.so_far.place,
          orders_size (take i b.orders),
          length-take-le i b.orders (omega (arith, h, held.few, held.size.long)),
          h,
          held.few,
        )

    pub all_shelved : count ≤ i → Puts buffer 0 (text_of (shelf b)) p out
    unfolding text_of shelf
    all_shelved h =
        let e : i ≡ count = omega (arith, h, g.few) in
        let rest : Run above at (orders_text (take count b.orders)) p out = rw e at g.so_far in
        let head = head_text (take b.size b.unit) b.floor count in
        rw (held.held, size b count held) (same_puts (head ++ orders_text (take count b.orders)) refl (then (puts {t = head} top) rest))
