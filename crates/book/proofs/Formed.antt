-- A book that is not malformed is the one that holds its ledger; and what a call answers by that. Assumes nothing.
use Prim.Native.Nat.{ℕ, zero, suc}
use Rattle.book.specs.Answers.{outcome, call_number, next_of, outcome_of, deed_number, deed_next, deed_outcome_of, Refused, found, asked_of}
use Rattle.book.specs.Places.{with_orders, book_of, shelf, formed_unit, true_panel, formed_book}
use Rattle.book.specs.declared.Book.{Book}
use Rattle.book_ledger.specs.Calls.{Call, ask, Deed, deed_of, could_ask}
use Rattle.book_ledger.specs.Ledger.{rungs_of, is_full, answer, effect, in_force}
use Rattle.book_order.specs.Orders.{next_end}
use Rattle.book_order.specs.declared.Order.{Order}
use Rattle.book_places.proofs.Leading.{formed_places}
use Rattle.book_places.specs.Places.{packed, formed_from}
use Rattle.book_shelf.proofs.Packing.{all_rest}
use Rattle.text.proofs.Tests.{by_test, and_parts, Tells, told, itself, eqb_tells, ◌and◌}
use Rattle.text.specs.Bytes.{all, is}
use Rattle.text.specs.Puts.{room_of}
use Rattle.text.specs.Refusals.{first_number}
use Rattle.value_name.specs.Names.{is_unit}
use borrow.Author.Tests.{leb-true, eqb-true}
use lib.Dec.{eqb, leb}
use lib.ListN.{length, take, drop}
use lib.Seq.{length-take-le}
use mathlib.Core.Bool.{true, false, true≢false}
use mathlib.Core.List.{List}
use mathlib.Core.Path.{◌≡◌, refl, sym, ap, ◌∙◌}
use native.Mathlib.Omega.{arith}

-- ---- the unit of a book

pub formed_unit_lem : (size : ℕ) (unit : List ℕ) → length unit ≡ 16 → formed_unit size unit ≡ true
    → (size ≡ length (take size unit)) × (unit ≡ room_of 16 (take size unit))
unfolding formed_unit room_of
formed_unit_lem size unit h e =
    let p = and_parts (leb size 16) _ e in
    let q = and_parts (is_unit (take size unit)) (all (is 0) (drop size unit)) p.1 in
    let s : length (take size unit) ≡ size = length-take-le size unit (omega (arith, leb-true size 16 p.0)) in
    (sym s, rw s (all_rest (is 0) 0 (λ x. eqb-true x 0) size 16 unit h q.1))

-- ---- what is so of a book that is not malformed

pub record Formed (b : Book) : Type 0 where
  pub unit_good : formed_unit b.size b.unit ≡ true
  pub places_good : formed_from b.floor 0 b.orders ≡ true
  pub held_is : b.held ≡ length (shelf b).orders
  pub next_is : b.next ≡ next_end (shelf b).orders

panel_tells : (b : Book) → Tells (true_panel b) ((b.held ≡ length (shelf b).orders) × (b.next ≡ next_end (shelf b).orders))
unfolding true_panel
panel_tells b = eqb_tells b.held (length (shelf b).orders) and eqb_tells b.next (next_end (shelf b).orders)

pub formed_tells : (b : Book) → Tells (formed_book b) (Formed b)
unfolding formed_book
formed_tells b =
    told
    (itself (formed_unit b.size b.unit) and (itself (formed_from b.floor 0 b.orders) and panel_tells b))
    (λ p. record { unit_good = p.0; places_good = p.1.0; held_is = p.1.1.0; next_is = p.1.1.1 })
    (λ w. (w.unit_good, (w.places_good, (w.held_is, w.next_is))))

-- THE LAW: a book that is not malformed is the one that holds its ledger
pub shelf_book : (b : Book) → length b.orders ≡ 96 → length b.unit ≡ 16 → formed_book b ≡ true → b ≡ book_of (shelf b)
unfolding book_of shelf
shelf_book b h k e =
    let w = (formed_tells b).0 e in
    let u = formed_unit_lem b.size b.unit k w.unit_good in
    let places = formed_places b.floor b.orders h w.places_good in
    λ i. record { size = u.0 i; unit = u.1 i; floor = b.floor; held = w.held_is i; next = w.next_is i; orders = places i }

-- with another floor and other orders, and the two numbers of these, it is the one that holds them
pub with_book : (b : Book) (f held next : ℕ) (l m : List Order) → length b.unit ≡ 16 → formed_book b ≡ true → l ≡ packed m
    → held ≡ length m → next ≡ next_end m
    → with_orders b f held next l ≡ book_of (record { unit = (shelf b).unit; floor = f; orders = m })
unfolding book_of shelf
with_book b f held next l m k e q n x =
    let u = formed_unit_lem b.size b.unit k ((formed_tells b).0 e).unit_good in
    λ i. record { size = u.0 i; unit = u.1 i; floor = f; held = n i; next = x i; orders = q i }

-- ---- what a deed answers

pub deed_malformed : (d : Deed) (b : Book) → formed_book b ≡ false → outcome 20 b ≡ deed_outcome_of d b
unfolding deed_number deed_next
deed_malformed d b e = rw e

module _ (d : Deed) (b : Book) (formed : formed_book b ≡ true) where
  pub deed_invalid : could_ask d ≡ false → outcome 12 b ≡ deed_outcome_of d b
  unfolding deed_number deed_next
  deed_invalid c = rw (formed, c)

  module _ (c : could_ask d ≡ true) (n : ℕ) (a : first_number (rungs_of (is_full (shelf b)) d (shelf b)) ≡ n) where
    is_number : deed_number d b ≡ n
    unfolding deed_number
    is_number = rw (formed, c) a

    pub deed_refused : eqb n 0 ≡ false → outcome n b ≡ deed_outcome_of d b
    unfolding deed_next
    deed_refused z = rw (is_number, z)

    pub deed_done : n ≡ 0 → (next : Book) → next ≡ book_of (effect d (shelf b)) → outcome 0 next ≡ deed_outcome_of d b
    unfolding deed_next
    deed_done z next q = rw (is_number, z) (ap (outcome 0) q)

-- ---- what a call answers

pub malformed : (k : Call) (b : Book) → formed_book b ≡ false → outcome 20 b ≡ outcome_of k b
unfolding call_number next_of
malformed k b e = rw e

module _ (k : Call) (b : Book) (long : length b.orders ≡ 96) (wide : length b.unit ≡ 16) (formed : formed_book b ≡ true) where
  pub refused : (n : ℕ) → answer k (shelf b) ≡ n → eqb n 0 ≡ false → outcome n b ≡ outcome_of k b
  unfolding call_number next_of
  refused n a z = rw (formed, a, z) (ap (outcome n) (shelf_book b long wide formed))

  taken : answer k (shelf b) ≡ 0 → outcome 0 (book_of (effect (deed_of k) (shelf b))) ≡ outcome_of k b
  unfolding call_number next_of
  taken a = rw (formed, a)

  -- a call whose message is not refused for itself is its deed
  pub by_deed : could_ask (deed_of k) ≡ true → answer k (shelf b) ≡ first_number (rungs_of (is_full (shelf b)) (deed_of k) (shelf b))
      → deed_outcome_of (deed_of k) b ≡ outcome_of k b
  by_deed c q =
      let d = deed_of k in
      let n = first_number (rungs_of (is_full (shelf b)) d (shelf b)) in
      by_test (eqb n 0)
      (λ z. sym (deed_done d b formed c n refl (eqb-true n 0 z) _ refl) ∙ taken (q ∙ eqb-true n 0 z))
      (λ z. sym (deed_refused d b formed c n refl z) ∙ refused n q z)

-- ---- what the question answers

pub asked_malformed : (t : ℕ) (b : Book) → formed_book b ≡ false → record { answer = Refused 20 0; book = b } ≡ asked_of t b
unfolding asked_of call_number
asked_malformed t b e = rw e

pub asked_refused : (t : ℕ) (b : Book) (n : ℕ) → formed_book b ≡ true → answer (ask t) (shelf b) ≡ n → eqb n 0 ≡ false
    → record { answer = Refused n 0; book = b } ≡ asked_of t b
unfolding asked_of call_number
asked_refused t b zero e a z = absurd (true≢false z)
asked_refused t b (suc n) e a z = rw (e, a)

pub asked_done : (t : ℕ) (b : Book) → formed_book b ≡ true → answer (ask t) (shelf b) ≡ 0
    → record { answer = found (in_force t (shelf b)); book = b } ≡ asked_of t b
unfolding asked_of call_number
asked_done t b e a = rw (e, a)
