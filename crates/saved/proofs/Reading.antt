-- The loop that reads the orders below a head: those read so far, with what the rest gives after them, are the orders. Assumes nothing.
use Prim.Native.Nat.{ℕ, suc, ◌+◌, ◌-◌, ◌*◌, ◌≤◌, ◌<◌}
use Rattle.book.specs.Answers.{outcome}
use Rattle.book.specs.Places.{book_of, book_with, book_from}
use Rattle.book.specs.declared.Book.{Book}
use Rattle.book_ledger.specs.Ledger.{Ledger}
use Rattle.book_order.specs.Orders.{next_end, empty_order}
use Rattle.book_order.specs.declared.Order.{Order}
use Rattle.book_places.specs.Places.{packed}
use Rattle.saved.proofs.Ordering.{said_fits}
use Rattle.saved.specs.Orders.{order_from}
use Rattle.saved.specs.Reads.{Read, good, bad, and_then, lined, read_item}
use Rattle.saved.specs.Saved.{above, read_order, read_orders, read_rest, read_below, order_read_of, read_as, unread_at}
use Rattle.saved.specs.Saved.{Head}
use Rattle.saved.specs.Saved.{OrderRead}
use Rattle.saved_lines.proofs.Exact.{read_only, bad_low}
use Rattle.saved_lines.specs.Items.{Lines, good as good_lines, bad as bad_line, read_from, text_from}
use Rattle.saved_lines.specs.Tables.{next_of}
use Rattle.saved_lines.specs.declared.Table.TheVariants.{Order as OrderTable}
use Rattle.text.proofs.Tests.{by_test}
use Rattle.text.specs.Puts.{room_of}
use Rattle.text_room.specs.Rooms.{kept_in}
use borrow.Author.Tests.{eq-eqb, ne_eqb, le-leb}
use lib.ListN.{length, take, drop, set, replicate, length-append, length-drop, length-set}
use lib.Seq.{take-length, take-suc-set, set_split, drop-drop, drop_at, length-take-le}
use mathlib.Core.Bool.{true, false, true≢false, false≢true}
use mathlib.Core.List.{List, [], ◌∷◌, ◌++◌, append-nil, append_assoc}
use mathlib.Core.Path.{◌≡◌, refl, sym, ap, ◌∙◌}
use native.Mathlib.Numerals.{add-one}
use native.Mathlib.Omega.{arith}

-- ---- one order

module _ (floor least : ℕ) (s : List ℕ) where
  abbrev lines : Lines
  lines = read_from (next_of OrderTable (above least (suc floor))) 18 [] s

  -- a good one, from any line on
  pub record OneMore (r : OrderRead) : Type 0 where
    pub rest : List ℕ
    pub read : (n : ℕ) → read_order floor least n s ≡ good r.order (n + r.lines) rest
    pub few : r.lines ≤ 18
    pub small : r.order.number ≤ 9999999999
    pub inside : r.end ≤ length s
    pub from_there : drop r.end s ≡ rest

  pub one_more : (r : OrderRead) → r ≡ order_read_of (read_order floor least 0 s) s → r.good ≡ true → OneMore r
  unfolding read_order read_item order_from
  one_more r e y = by_lines lines refl e
    where
      by_lines : (l : Lines) → lines ≡ l → r ≡ order_read_of (and_then (lined 0 l) (λ vs m rest. good (order_from vs) m rest)) s → OneMore r
      by_lines (bad_line k) i e = absurd (false≢true (sym (ap (λ (x : OrderRead). x.good) e) ∙ y))
      by_lines (good_lines vs rest) i e =
          let next = next_of OrderTable (above least (suc floor)) in
          let f = read_only next 18 [] vs s rest i in
          let text : s ≡ text_from next [] vs ++ rest = f.text_is ∙ ap (λ (l : List ℕ). text_from next [] l ++ rest) (sym f.all_are) in
          let len : length s ≡ length (text_from next [] vs) + length rest = ap length text ∙ length-append (text_from next [] vs) rest in
          let ok = said_fits floor least vs (rw f.all_are f.said) in
          let q = ok.seven_lines in
          let seven : length vs ≡ 7 = ap length q.are in
          let o_is : r.order ≡ order_from vs = ap (λ (x : OrderRead). x.order) e in
          let lines_are : r.lines ≡ 0 + length vs = ap (λ (x : OrderRead). x.lines) e in
          let end_is : r.end ≡ length s - length rest = ap (λ (x : OrderRead). x.end) e in
          let number_is : r.order.number ≡ q.n = ap (λ (x : Order). x.number) o_is ∙ ap (λ (l : List ℕ). (order_from l).number) q.are in
          let here : r.end ≡ length (text_from next [] vs) = omega (arith, end_is, len) in
          record {
            rest = rest;
            read = λ n.
                let c : n + length vs ≡ n + r.lines = omega (arith, lines_are) in
                rw (i, c, sym o_is);
            few = omega (arith, lines_are, seven);
            small = omega (arith, number_is, q.number_to);
            inside = omega (arith, end_is);
            from_there =
                ap (λ (k : ℕ). drop k s) here ∙ ap (drop (length (text_from next [] vs))) text
                ∙ drop_at (text_from next [] vs) rest (length (text_from next [] vs)) refl;
          }

  -- a bad one
  pub record NoMore (r : OrderRead) : Type 0 where
    pub read : (n : ℕ) → read_order floor least n s ≡ bad (n + r.lines)
    pub few : r.lines ≤ 18

  pub no_more : (r : OrderRead) → r ≡ order_read_of (read_order floor least 0 s) s → r.good ≡ false → NoMore r
  unfolding read_order read_item
  no_more r e y = by_lines lines refl e
    where
      by_lines : (l : Lines) → lines ≡ l → r ≡ order_read_of (and_then (lined 0 l) (λ vs m rest. good (order_from vs) m rest)) s → NoMore r
      by_lines (good_lines vs rest) i e = absurd (true≢false (sym (ap (λ (x : OrderRead). x.good) e) ∙ y))
      by_lines (bad_line j) i e =
          let c : r.lines ≡ 0 + j = ap (λ (x : OrderRead). x.lines) e in
          record {
            read = λ n. let m : n + j ≡ n + r.lines = omega (arith, c) in rw (i, m);
            few = omega (arith, c, bad_low (next_of OrderTable (above least (suc floor))) 18 [] s j i);
          }

  -- and either has few lines
  lines_few : (r : OrderRead) → r ≡ order_read_of (read_order floor least 0 s) s → r.lines ≤ 18
  lines_few r e = by_test r.good (λ y. (one_more r e y).few) (λ y. (no_more r e y).few)

-- ---- the loop

-- orders before those that are read
abbrev pub before : List Order → Read (List Order) → Read (List Order)
before done (good os n s) = good (done ++ os) n s
before done (bad n) = bad n

before_cons : (done : List Order) (o : Order) (r : Read (List Order))
    → before done (and_then r (λ os l t. good (o ∷ os) l t)) ≡ before (done ++ (o ∷ [])) r
before_cons done o (bad n) = refl
before_cons done o (good os n s) = ap (λ (l : List Order). good l n s) (sym (append_assoc done (o ∷ []) os))

before_none : (r : Read (List Order)) → before [] r ≡ r
before_none (bad n) = refl
before_none (good os n s) = refl

pub record Reading (h : Head) (s : List ℕ) (orders : List Order) (count least line : ℕ) (rest : List ℕ) : Type 0 where
  pub few : count ≤ h.count
  pub long : length orders ≡ 96
  pub room : orders ≡ packed (take count orders)
  pub near : line ≤ 5 + 18 * count
  pub fits : length rest ≤ length s
  pub rest_is : before (take count orders) (read_orders h.floor (h.count - count) least line rest)
      ≡ read_orders h.floor h.count 0 h.line (drop h.end s)

module _ (h : Head) (s : List ℕ) where
  pub begin : h.line ≤ 5 → h.end ≤ length s → Reading h s (replicate 96 empty_order) 0 0 h.line (take (length s - h.end) (drop h.end s))
  begin l e =
      let whole : take (length s - h.end) (drop h.end s) ≡ drop h.end s =
      ap (λ (k : ℕ). take k (drop h.end s)) (sym (length-drop h.end s)) ∙ take-length (drop h.end s) in
      let all : h.count - 0 ≡ h.count = omega arith in
      rw whole (record {
        few = omega arith;
        long = refl;
        room = refl;
        near = omega (arith, l);
        fits = omega (arith, length-drop h.end s);
        rest_is = rw all (before_none (read_orders h.floor h.count 0 h.line (drop h.end s)));
      })

  module _ (orders : List Order) (count least line : ℕ) (rest : List ℕ) (g : Reading h s orders count least line rest) where
    size : count ≤ 96 → length (take count orders) ≡ count
    size k = length-take-le count orders (omega (arith, k, g.long))

    here : (k : ℕ) → h.count - count ≡ k
        → read_orders h.floor h.count 0 h.line (drop h.end s) ≡ before (take count orders) (read_orders h.floor k least line rest)
    here k e = sym g.rest_is ∙ ap (λ (j : ℕ). before (take count orders) (read_orders h.floor j least line rest)) e

    module _ (more : count < h.count) (fits : h.count ≤ 96) (r : OrderRead) (told : r ≡ order_read_of (read_order h.floor least 0 rest) rest) where
      step : h.count - count ≡ suc (h.count - suc count)
      step = omega (arith, more)

      -- the line that follows
      pub line_low : line + r.lines ≤ 2000
      line_low = omega (arith, lines_few h.floor least rest r told, g.near, more, fits)

      pub stop_here : r.good ≡ false → read_as (read_below h (drop h.end s)) ≡ unread_at (line + r.lines)
      unfolding read_rest read_orders
      stop_here y =
          let b = no_more h.floor least rest r told y in
          let is : read_orders h.floor h.count 0 h.line (drop h.end s) ≡ bad (line + r.lines) =
          here (suc (h.count - suc count)) step ∙ rw (b.read line) in
          rw is

      zeros : drop (suc count) orders ≡ replicate (96 - suc count) empty_order
      zeros =
          let len = size (omega (arith, more, fits)) in
          let k : 96 - length (take count orders) ≡ suc (96 - suc count) = omega (arith, len, more, fits) in
          sym (ap (λ (j : ℕ). drop j orders) (add-one count))
          ∙ sym (drop-drop 1 count orders)
          ∙ ap (drop 1) (ap (drop count) g.room ∙ drop_at (take count orders) (replicate (96 - length (take count orders)) empty_order) count len)
          ∙ ap (λ (j : ℕ). drop 1 (replicate j empty_order)) k

      pub go_on : r.good ≡ true
          → (r.order.number ≤ 9999999999) × (r.end ≤ length rest)
          × Reading h s (set orders count r.order) (count + 1) (r.order.number + 1) (line + r.lines) (take (length rest - r.end) (drop r.end rest))
      unfolding read_orders
      go_on y =
          let o = r.order in
          let m = one_more h.floor least rest r told y in
          let inside : count < length orders = omega (arith, g.long, more, fits) in
          let one : take (count + 1) (set orders count o) ≡ take count orders ++ (o ∷ []) = rw (add-one count) (take-suc-set orders count o inside) in
          let j : h.count - (count + 1) ≡ h.count - suc count = omega arith in
          let len : length (take count orders ++ (o ∷ [])) ≡ suc count =
          omega (arith, length-append (take count orders) (o ∷ []), size (omega (arith, more, fits))) in
          let whole : take (length rest - r.end) (drop r.end rest) ≡ m.rest =
          ap (λ (k : ℕ). take k (drop r.end rest)) (sym (length-drop r.end rest)) ∙ take-length (drop r.end rest) ∙ m.from_there in
          let others : Read (List Order) = read_orders h.floor (h.count - suc count) (suc o.number) (line + r.lines) m.rest in
          let with_one : read_orders h.floor (suc (h.count - suc count)) least line rest ≡ and_then others (λ os l t. good (o ∷ os) l t) =
          rw (m.read line) in
          let next : before (take count orders) (read_orders h.floor (suc (h.count - suc count)) least line rest) ≡ before
          (take count orders ++ (o ∷ [])) others =
          ap (before (take count orders)) with_one ∙ before_cons (take count orders) o others in (
            m.small,
            m.inside,
            rw (whole, add-one o.number) (record {
              few = omega (arith, more);
              long = length-set orders count o ∙ g.long;
              room =
                  rw (one, len)
                  (set_split orders count o inside
                  ∙ ap (λ (l : List Order). take count orders ++ (o ∷ l)) zeros
                  ∙ sym (append_assoc (take count orders) (o ∷ []) (replicate (96 - suc count) empty_order)));
              near = omega (arith, m.few, g.near);
              fits = omega (arith, g.fits, ap length (sym m.from_there), length-drop r.end rest);
              rest_is = rw (one, j) (sym (here (suc (h.count - suc count)) step ∙ next));
            }),
          )

    -- ---- at the end

    module _ (over : h.count ≤ count) where
      all_read : read_orders h.floor h.count 0 h.line (drop h.end s) ≡ good (take count orders) line rest
      unfolding read_orders
      all_read = here 0 (omega (arith, over)) ∙ ap (λ (l : List Order). good l line rest) (append-nil (take count orders))

      pub too_many : (length rest ≡ 0 → ⊥) → read_as (read_below h (drop h.end s)) ≡ unread_at line
      unfolding read_rest
      too_many n = rw (all_read, ne_eqb (length rest) 0 n)

      pub all_there : length rest ≡ 0 → (unit : List ℕ) → unit ≡ take h.size h.unit → (b : Book) → b ≡ book_from unit h.floor count orders
          → length unit ≤ 16 → h.count ≤ 96 → record { number = 0; detail = 0; book = b } ≡ read_as (read_below h (drop h.end s))
      unfolding read_rest book_from book_of kept_in
      all_there y unit u b e k most =
          let l : Ledger = record { unit = unit; floor = h.floor; orders = take count orders } in
          let many : length (take count orders) ≡ count = length-take-le count orders (omega (arith, g.few, g.long, most)) in
          let kept : book_from unit h.floor count orders ≡ book_of l =
          rw (le-leb (length unit) 16 k)
          (λ i. book_with (length unit) (room_of 16 unit) h.floor (sym many i) (next_end (take count orders)) (g.room i)) in
          let is : read_as (read_below h (drop h.end s)) ≡ outcome 0 (book_of l) = rw (all_read, eq-eqb (length rest) 0 y, sym u) in
          ap (outcome 0) (e ∙ kept) ∙ sym is
