-- What was saved is read back, and only that: of any ledger that fits, in which no order is struck in part. Assumes nothing.
use Rattle.std.specs.Prelude.{None, Option, Some}
use Prim.Native.Nat.{ℕ, zero, suc, ◌+◌, ◌-◌, ◌*◌, ◌≤◌}
use Rattle.book_ledger.specs.Ledger.{Ledger}
use Rattle.book_order.specs.Orders.{is_partial}
use Rattle.book_order.specs.declared.Order.{Order}
use Rattle.book_places.proofs.Leading.{fits_facts}
use Rattle.book_places.specs.Places.{fits_after}
use Rattle.book_theorems.proofs.Fitting.{Fitted, Fits}
use Rattle.saved.proofs.Ordering.{order_back, fits_said, said_fits}
use Rattle.saved.specs.Orders.{values_of, order_from}
use Rattle.saved.specs.Reads.{Read, good, bad, and_then, ended, lined, read_item, unit_read, read_unit}
use Rattle.saved.specs.Saved.{above, nothing, Top, read_order, read_orders, read_head, read_rest, read_book}
use Rattle.saved.specs.Saved.{order_read_of, of_order_read, order_text, orders_text, head_text, text_of}
use Rattle.saved_lines.proofs.Bounds.{text_alike}
use Rattle.saved_lines.proofs.Exact.{read_text, read_only}
use Rattle.saved_lines.specs.Items.{Lines, good as good_lines, bad as bad_line, read_from, text_from, Said}
use Rattle.saved_lines.specs.Tables.{at, next_of}
use Rattle.saved_lines.specs.declared.Above.{Above}
use Rattle.saved_lines.specs.declared.Table.{Table}
use Rattle.saved_lines.specs.declared.Table.TheVariants.{Form, Head as HeadTable, Order as OrderTable}
use Rattle.text.proofs.Tests.{or_parts}
use Rattle.text.specs.Bytes.{any, bytes}
use Rattle.text.specs.Said.{said}
use Rattle.text_keyline.proofs.Lines.{unit_back, unit_own}
use Rattle.text_keyline.specs.Keylines.{below, line_text, unit_at}
use Rattle.value_name.specs.Names.{is_unit}
use borrow.Author.Tests.{ne_eqb}
use lib.Dec.{eqb}
use lib.ListN.{length, length-append}
use mathlib.Core.Bool.{true, false}
use mathlib.Core.List.{List, [], ◌∷◌, ◌++◌, append-nil, append_assoc}
use mathlib.Core.Path.{◌≡◌, refl, sym, ap, ap₂, ◌∙◌}
use native.Mathlib.Omega.{arith}

-- ---- an item, both ways

item_back : (t : Table) (a : Above) (n : ℕ) (vs rest : List ℕ) → Said (next_of t a) [] vs → length vs ≤ 17
    → read_item t a n (text_from (next_of t nothing) [] vs ++ rest) ≡ good vs (n + length vs) rest
unfolding read_item
item_back t a n vs rest p h =
    ap (lined n)
    (ap (λ (s : List ℕ). read_from (next_of t a) 18 [] (s ++ rest)) (text_alike nothing a t [] vs) ∙ read_text (next_of t a) 18 [] vs rest p (omega (arith, h)))

pub record ItemOwn (t : Table) (a : Above) (n : ℕ) (s vs : List ℕ) (m : ℕ) (rest : List ℕ) : Type 0 where
  pub said : Said (next_of t a) [] vs
  pub text : s ≡ text_from (next_of t nothing) [] vs ++ rest
  pub line : m ≡ n + length vs

item_own : (t : Table) (a : Above) (n : ℕ) (s vs : List ℕ) (m : ℕ) (rest : List ℕ) → read_item t a n s ≡ good vs m rest → ItemOwn t a n s vs m rest
unfolding read_item
item_own t a n s vs m rest e = by_lines (read_from (next_of t a) 18 [] s) refl e
  where
    by_lines : (l : Lines) → read_from (next_of t a) 18 [] s ≡ l → lined n l ≡ good vs m rest → ItemOwn t a n s vs m rest
    by_lines (bad_line k) i e = let z : ◌≡◌ {A = ℕ} 0 1 = cc in absurd (omega arith)
    by_lines (good_lines us r) i e =
        let f = read_only (next_of t a) 18 [] us s r i in
        let u : us ≡ vs = cc in
        let q : r ≡ rest = cc in
        let w : f.values ≡ vs = sym f.all_are ∙ u in
        record {
          said = rw w at f.said;
          text =
              f.text_is
              ∙ ap₂ (λ (l k : List ℕ). text_from (next_of t a) [] l ++ k) w q
              ∙ ap (λ (l : List ℕ). l ++ rest) (text_alike a nothing t [] vs);
          line = let k : n + length us ≡ m = cc in sym k ∙ ap (λ (l : List ℕ). n + length l) u;
        }

-- what is read after something was: that it was, and what
module _ {A B : Type 0} where
  pub record Then (x : Read A) (f : A → ℕ → List ℕ → Read B) (b : B) (m : ℕ) (rest : List ℕ) : Type 0 where
    pub thing : A
    pub line : ℕ
    pub below_it : List ℕ
    pub first : x ≡ good thing line below_it
    pub second : f thing line below_it ≡ good b m rest

  pub then_told : (x : Read A) (f : A → ℕ → List ℕ → Read B) (b : B) (m : ℕ) (rest : List ℕ) → and_then x f ≡ good b m rest → Then x f b m rest
  then_told (bad n) f b m rest e = let z : ◌≡◌ {A = ℕ} 0 1 = cc in absurd (omega arith)
  then_told (good a n s) f b m rest e = record { thing = a; line = n; below_it = s; first = refl; second = e }

-- ---- orders

seven_long : (o : Order) → length (values_of o) ≡ 7
unfolding values_of
seven_long o = refl

-- what is read is the order of its values
order_read : (floor least n : ℕ) (o : Order) (rest : List ℕ) → fits_after floor least o ≡ true
    → read_order floor least n (order_text o ++ rest) ≡ good (order_from (values_of o)) (n + 7) rest
unfolding read_order
order_read floor least n o rest e =
    let fits = fits_said floor least o e in
    let line : n + length (values_of o) ≡ n + 7 = ap (λ (k : ℕ). n + k) (seven_long o) in
    let read = item_back OrderTable (above least (suc floor)) n (values_of o) rest fits (omega (arith, seven_long o)) in
    rw (read, line)

-- THE THEOREM: one order by itself is read from its text, whatever follows
pub one_order : (floor least : ℕ) (o : Order) (rest : List ℕ) → fits_after floor least o ≡ true
    → of_order_read (order_read_of (read_order floor least 0 (order_text o ++ rest)) (order_text o ++ rest)) ≡ said 0 0 (7 ∷ length (order_text o) ∷ values_of o)
one_order floor least o rest e =
    let size : length (order_text o ++ rest) - length rest ≡ length (order_text o) = omega (arith, length-append (order_text o) rest) in
    let own = said_fits floor least (values_of o) (fits_said floor least o e) in
    rw (order_read floor least 0 o rest e, own.values_back) (ap (λ (k : ℕ). said 0 0 (7 ∷ k ∷ values_of o)) size)

-- and that is the order, unless it is struck in part
order_same : (floor least : ℕ) (o : Order) → fits_after floor least o ≡ true → is_partial o ≡ false → order_from (values_of o) ≡ o
order_same floor least o e w = let f = fits_facts floor least o e in order_back o f.2 f.3 w

orders_back : (floor least n : ℕ) (l : List Order) (rest : List ℕ) → Fitted floor least l → any is_partial l ≡ false
    → read_orders floor (length l) least n (orders_text l ++ rest) ≡ good l (n + 7 * length l) rest
unfolding read_orders any
orders_back floor least n [] rest g w = let z : n ≡ n + 7 * 0 = omega arith in rw (sym z)
orders_back floor least n (o ∷ l) rest g w =
    let p = or_parts (is_partial o) (any is_partial l) w in
    let seam : (order_text o ++ orders_text l) ++ rest ≡ order_text o ++ (orders_text l ++ rest) = append_assoc (order_text o) (orders_text l) rest in
    let line : n + 7 + 7 * length l ≡ n + 7 * suc (length l) = omega arith in
    rw (
      seam,
      order_read floor least n o (orders_text l ++ rest) g.0,
      order_same floor least o g.0 p.0,
      orders_back floor (suc o.number) (n + 7) l rest g.1 p.1,
      line,
    )

pub record OrdersOwn (floor least k n : ℕ) (s : List ℕ) (l : List Order) (rest : List ℕ) : Type 0 where
  pub fitted : Fitted floor least l
  pub count : length l ≡ k
  pub text : s ≡ orders_text l ++ rest

orders_own : (floor k least n : ℕ) (s : List ℕ) (l : List Order) (m : ℕ) (rest : List ℕ) → read_orders floor k least n s ≡ good l m rest
    → OrdersOwn floor least k n s l rest
unfolding read_orders read_order
orders_own floor zero least n s l m rest e =
    let a : [] ≡ l = cc in
    let q : s ≡ rest = cc in
    rw (sym a) (record { fitted = tt; count = refl; text = q })
orders_own floor (suc k) least n s l m rest e =
    let t =
    then_told (read_order floor least n s) (λ o m rest. and_then (read_orders floor k (suc o.number) m rest) (λ os l r. good (o ∷ os) l r)) l m rest e in
    let u =
    then_told (read_item OrderTable (above least (suc floor)) n s) (λ vs m rest. good (order_from vs) m rest) t.thing t.line t.below_it t.first in
    let w = then_told (read_orders floor k (suc t.thing.number) t.line t.below_it) (λ os l r. good (t.thing ∷ os) l r) l m rest t.second in
    let i = item_own OrderTable (above least (suc floor)) n s u.thing u.line u.below_it u.first in
    let ok = said_fits floor least u.thing i.said in
    let r = orders_own floor k (suc t.thing.number) t.line t.below_it w.thing w.line w.below_it w.first in
    let is_order : order_from u.thing ≡ t.thing = cc in
    let is_below : u.below_it ≡ t.below_it = cc in
    let is_all : t.thing ∷ w.thing ≡ l = cc in
    let is_rest : w.below_it ≡ rest = cc in
    rw (sym is_all) (record {
      fitted = (rw is_order at ok.fits, r.fitted);
      count = ap suc r.count;
      text =
          i.text
          ∙ ap₂ (λ (v z : List ℕ). text_from (next_of OrderTable nothing) [] v ++ z) (sym ok.values_back ∙ ap values_of is_order)
          (is_below ∙ r.text ∙ ap (λ (z : List ℕ). orders_text w.thing ++ z) is_rest)
          ∙ sym (append_assoc (order_text t.thing) (orders_text w.thing) rest);
    })

-- ---- the lines above the orders

form_said : Said (next_of Form nothing) [] (1 ∷ [])
form_said = ((omega arith, omega arith, omega arith), refl)

head_said : (floor count : ℕ) → floor ≤ 4294967295 → count ≤ 96 → Said (next_of HeadTable nothing) [] (floor ∷ count ∷ [])
head_said floor count f c =
    ((omega arith, f, omega (arith, f)), ((omega arith, c, omega (arith, c)), refl))

abbrev top : List ℕ → ℕ → ℕ → Top
top u f c = record { unit = u; floor = f; count = c }

-- three texts, one after another, and what follows
seams : (form unit head rest : List ℕ) → ((form ++ unit) ++ head) ++ rest ≡ form ++ (unit ++ (head ++ rest))
seams form unit head rest = append_assoc (form ++ unit) head rest ∙ append_assoc form unit (head ++ rest)

head_back : (u : List ℕ) (floor count : ℕ) (rest : List ℕ) → is_unit u ≡ true → floor ≤ 4294967295 → count ≤ 96
    → read_head (head_text u floor count ++ rest) ≡ good (top u floor count) 5 rest
unfolding read_head head_text read_unit
head_back u floor count rest e f c =
    let form = text_from (next_of Form nothing) [] (1 ∷ []) in
    let unit = line_text (bytes "unit=") u in
    let head = text_from (next_of HeadTable nothing) [] (floor ∷ count ∷ []) in
    let b = unit_back u (head ++ rest) e in
    rw (
      seams form unit head rest,
      item_back Form nothing 1 (1 ∷ []) (unit ++ (head ++ rest)) form_said (omega arith),
      b.0,
      b.1,
      item_back HeadTable nothing 3 (floor ∷ count ∷ []) rest (head_said floor count f c) (omega arith),
    )

pub record HeadOwn (s : List ℕ) (h : Top) (rest : List ℕ) : Type 0 where
  pub unit_good : is_unit h.unit ≡ true
  pub floor_fits : h.floor ≤ 4294967295
  pub few : h.count ≤ 96
  pub text : s ≡ head_text h.unit h.floor h.count ++ rest

-- the values of the two items
form_one : (vs : List ℕ) → Said (next_of Form nothing) [] vs → vs ≡ 1 ∷ []
form_one [] p = let z : ◌≡◌ {A = ℕ} 0 1 = cc in absurd (omega arith)
form_one (v ∷ []) p = let e : v ≡ 1 = omega (arith, p.0.0, p.0.1) in rw e
form_one (v ∷ w ∷ vs) p = absurd p.1.0

pub record Two (vs : List ℕ) : Type 0 where
  pub floor_fits : at 0 vs ≤ 4294967295
  pub few : at 1 vs ≤ 96
  pub are : vs ≡ at 0 vs ∷ at 1 vs ∷ []

head_two : (vs : List ℕ) → Said (next_of HeadTable nothing) [] vs → Two vs
head_two [] p = let z : ◌≡◌ {A = ℕ} 0 1 = cc in absurd (omega arith)
head_two (v ∷ []) p = let q = p.1 in let z : ◌≡◌ {A = ℕ} 0 1 = cc in absurd (omega arith)
head_two (v ∷ w ∷ []) p = record { floor_fits = p.0.1; few = p.1.0.1; are = refl }
head_two (v ∷ w ∷ x ∷ vs) p = absurd p.1.1.0

unit_told : (o : Option (List ℕ)) (n : ℕ) (s u : List ℕ) (m : ℕ) (rest : List ℕ) → unit_read o n s ≡ good u m rest → (o ≡ Some u) × (s ≡ rest)
unit_told None n s u m rest e = let z : ◌≡◌ {A = ℕ} 0 1 = cc in absurd (omega arith)
unit_told (Some v) n s u m rest e = let q : v ≡ u = cc in (rw q, cc)

head_own : (s : List ℕ) (h : Top) (m : ℕ) (rest : List ℕ) → read_head s ≡ good h m rest → HeadOwn s h rest
unfolding read_head read_unit head_text
head_own s h m rest e =
    let t = then_told (read_item Form nothing 1 s) _ h m rest e in
    let u = then_told (read_unit t.line t.below_it) _ h m rest t.second in
    let w = then_told (read_item HeadTable nothing u.line u.below_it) _ h m rest u.second in
    let f = item_own Form nothing 1 s t.thing t.line t.below_it t.first in
    let n = unit_told (unit_at t.below_it) t.line (below t.below_it) u.thing u.line u.below_it u.first in
    let o = unit_own t.below_it u.thing n.0 in
    let i = item_own HeadTable nothing u.line u.below_it w.thing w.line w.below_it w.first in
    let two = head_two w.thing i.said in
    let is_top : record { unit = u.thing; floor = at 0 w.thing; count = at 1 w.thing } ≡ h = cc in
    let is_rest : w.below_it ≡ rest = cc in
    let form = text_from (next_of Form nothing) [] (1 ∷ []) in
    let unit = line_text (bytes "unit=") u.thing in
    let head = text_from (next_of HeadTable nothing) [] (at 0 w.thing ∷ at 1 w.thing ∷ []) in
    rw (sym is_top) (record {
      unit_good = o.0;
      floor_fits = two.floor_fits;
      few = two.few;
      text =
          f.text
          ∙ ap₂ (λ (v z : List ℕ). text_from (next_of Form nothing) [] v ++ z) (form_one t.thing f.said)
          (o.1 ∙ ap (λ (z : List ℕ). unit ++ z) (n.1 ∙ i.text ∙ ap₂ (λ (v z : List ℕ). text_from (next_of HeadTable nothing) [] v ++ z) two.are is_rest))
          ∙ sym (seams form unit head rest);
    })

-- ---- the book

-- THE LAW: a ledger that fits is read from its text, unless an order is struck in part
pub text_read : (l : Ledger) → Fits l → l.floor ≤ 4294967295 → any is_partial l.orders ≡ false
    → read_book (text_of l) ≡ good l (5 + 7 * length l.orders) []
unfolding read_book read_rest text_of
text_read l g f w =
    let orders : read_orders l.floor (length l.orders) 0 5 (orders_text l.orders) ≡ good l.orders (5 + 7 * length l.orders) [] =
    ap (read_orders l.floor (length l.orders) 0 5) (sym (append-nil (orders_text l.orders)))
    ∙ orders_back l.floor 0 5 l.orders [] g.orders_fit w in
    rw (head_back l.unit l.floor (length l.orders) (orders_text l.orders) g.unit_good f g.room, orders)

pub record BookOwn (s : List ℕ) (l : Ledger) : Type 0 where
  pub fits : Fits l
  pub floor_fits : l.floor ≤ 4294967295
  pub text : s ≡ text_of l

-- nothing follows
abbrev thing_of : Ledger → Read Ledger → Ledger
thing_of l (good k n s) = k
thing_of l (bad n) = l

end_told : (l k : Ledger) (n m : ℕ) (s rest : List ℕ) → ended l n s ≡ good k m rest → (l ≡ k) × (s ≡ [])
end_told l k n m [] rest e = (ap (thing_of l) e, refl)
end_told l k n m (b ∷ s) rest e =
    let f : eqb (suc (length s)) 0 ≡ false = ne_eqb (suc (length s)) 0 (λ z. omega (arith, z)) in
    let g : bad n ≡ good k m rest = rw f at e in
    let z : ◌≡◌ {A = ℕ} 0 1 = cc in
    absurd (omega arith)

pub text_only : (s : List ℕ) (l : Ledger) (m : ℕ) (rest : List ℕ) → read_book s ≡ good l m rest → BookOwn s l
unfolding read_book read_rest text_of
text_only s l m rest e =
    let t = then_told (read_head s) _ l m rest e in
    let h = t.thing in
    let u = then_told (read_orders h.floor h.count 0 t.line t.below_it) _ l m rest t.second in
    let o = head_own s h t.line t.below_it t.first in
    let r = orders_own h.floor h.count 0 t.line t.below_it u.thing u.line u.below_it u.first in
    let d = end_told (record { unit = h.unit; floor = h.floor; orders = u.thing }) l u.line m u.below_it rest u.second in
    rw (sym d.0) (record {
      fits = record { unit_good = o.unit_good; orders_fit = r.fitted; room = omega (arith, r.count, o.few) };
      floor_fits = o.floor_fits;
      text =
          o.text
          ∙ ap₂ (λ (c : ℕ) (z : List ℕ). head_text h.unit h.floor c ++ z) (sym r.count)
          (r.text ∙ ap (λ (z : List ℕ). orders_text u.thing ++ z) d.1 ∙ append-nil (orders_text u.thing));
    })
