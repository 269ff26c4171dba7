-- The book that holds a fitting ledger is not malformed, and its calls are the ledger's. Assumes nothing.
use Prim.Native.Nat.{ℕ, zero, suc, ◌-◌, ◌≤◌}
use Rattle.book_places.proofs.Empty.{zero_is, empty_dropped}
use Rattle.book_places.proofs.Leading.{fits_past, fits_filled, kept_leading, leading_long}
use Rattle.book_places.specs.Places.{fits_after, formed_from, leading}
use Rattle.book.proofs.Formed.{formed_tells}
use Rattle.book.specs.Answers.{call_number, next_of, deed_number, deed_next, deed_outcome_of, found, asked_of}
use Rattle.book.specs.Places.{book_of, shelf, formed_unit, formed_book}
use Rattle.book_lists.specs.Keyed.{keep}
use Rattle.book.specs.declared.Book.{Book}
use Rattle.book_ledger.specs.Calls.{Call, ask, Deed, could_ask}
use Rattle.book_ledger.specs.Ledger.{Ledger, rungs_of, is_full, answer, effect, step, in_force}
use Rattle.value_name.specs.Names.{is_unit}
use Rattle.book_order.specs.Orders.{past_end, next_end, empty_order, is_empty}
use Rattle.book_order.specs.declared.Order.{Order}
use Rattle.book_theorems.proofs.Fitting.{Fitted, Fits, fits_deed}
use Rattle.text.proofs.Tests.{by_test, and_parts}
use Rattle.text.specs.Bytes.{all, is, within}
use Rattle.text.specs.Puts.{room_of}
use Rattle.text.specs.Refusals.{first_number}
use borrow.Author.Tests.{le-ltb, leb-true, eqb-true}
use lib.Dec.{eqb, leb}
use lib.ListN.{length, take, replicate, length-append, length-replicate, length-take}
use lib.Seq.{take-append_seam, drop-append_seam}
use mathlib.Core.Bool.{Bool, true}
use mathlib.Core.List.{List, [], ◌∷◌, ◌++◌}
use mathlib.Core.Path.{◌≡◌, refl, sym, ap}
use native.Mathlib.Omega.{arith}

-- ---- places that are filled with copies

all_copies : {A : Type 0} (p : A → Bool) (x : A) → p x ≡ true → (n : ℕ) → all p (replicate n x) ≡ true
unfolding all
all_copies p x e zero = refl
all_copies p x e (suc n) = rw e (all_copies p x e n)

filled_up : {A : Type 0} (n : ℕ) (x : A) (l : List A) → length l ≤ n → length (l ++ replicate (n - length l) x) ≡ n
filled_up n x l h = omega (arith, length-append l (replicate (n - length l) x), length-replicate (n - length l) x)

empties : (n : ℕ) → all is_empty (replicate n empty_order) ≡ true
empties n = all_copies is_empty empty_order zero_is n

-- ---- the orders and the unit of such a book

orders_formed : (f lo n : ℕ) (l : List Order) → Fitted f lo l → formed_from f lo (l ++ replicate n empty_order) ≡ true
orders_formed f lo zero [] g = refl
orders_formed f lo (suc n) [] g = rw zero_is (empties n)
orders_formed f lo n (o ∷ l) g = rw (fits_filled f lo o g.0, g.0) (orders_formed f (suc o.number) n l g.1)

orders_kept : (f lo n : ℕ) (l : List Order) → Fitted f lo l → keep (past_end 0) (l ++ replicate n empty_order) ≡ l
orders_kept f lo n [] g = empty_dropped (replicate n empty_order) (empties n)
orders_kept f lo n (o ∷ l) g = rw (fits_past f lo o g.0) (ap (λ (m : List Order). o ∷ m) (orders_kept f (suc o.number) n l g.1))

unit_short : (unit : List ℕ) → is_unit unit ≡ true → leb (length unit) 16 ≡ true
unfolding is_unit
unit_short unit e = (and_parts (leb 1 (length unit)) (leb (length unit) 16) (and_parts (within 1 16 (length unit)) _ e).0).1

unit_formed : (unit : List ℕ) → is_unit unit ≡ true → formed_unit (length unit) (room_of 16 unit) ≡ true
unfolding formed_unit room_of
unit_formed unit e =
    let z : List ℕ = replicate (16 - length unit) 0 in
    rw (unit_short unit e, take-append_seam unit z, e, drop-append_seam unit z) (all_copies (is 0) 0 refl (16 - length unit))

-- ---- such a book

module _ (b : Ledger) (g : Fits b) where
  pub shelved : shelf (book_of b) ≡ b
  unfolding shelf book_of room_of
  shelved = λ i. record {
    unit = take-append_seam b.unit (replicate (16 - length b.unit) 0) i;
    floor = b.floor;
    orders = orders_kept b.floor 0 (96 - length b.orders) b.orders g.orders_fit i;
  }

  pub formed : formed_book (book_of b) ≡ true
  unfolding book_of
  formed =
      (formed_tells (book_of b)).1
      (record {
        unit_good = unit_formed b.unit g.unit_good;
        places_good = orders_formed b.floor 0 (96 - length b.orders) b.orders g.orders_fit;
        held_is = ap (λ (l : Ledger). length l.orders) (sym shelved);
        next_is = ap (λ (l : Ledger). next_end l.orders) (sym shelved);
      })

  -- it has 96 places, and its unit a room of 16 bytes
  pub sized : (length (book_of b).orders ≡ 96) × (length (book_of b).unit ≡ 16)
  unfolding book_of room_of
  sized = (
    filled_up 96 empty_order b.orders g.room,
    filled_up 16 0 b.unit (leb-true (length b.unit) 16 (unit_short b.unit g.unit_good)),
  )

  pub lift_code : (k : Call) → call_number k (book_of b) ≡ answer k b
  unfolding call_number
  lift_code k = rw formed (ap (answer k) shelved)

  pub lift_next : (k : Call) → next_of k (book_of b) ≡ book_of (step k b)
  unfolding next_of
  lift_next k = rw formed (ap (λ (l : Ledger). book_of (step k l)) shelved)

  -- no instant below the floor is asked for
  pub lift_asked : (t : ℕ) → b.floor ≤ t → (asked_of t (book_of b)).answer ≡ found (in_force t b)
  unfolding asked_of
  lift_asked t h = rw (lift_code (ask t), le-ltb t b.floor h) (ap (λ (l : Ledger). found (in_force t l)) shelved)

-- ---- and back: a book that is not malformed holds a ledger that fits

fitted_leading : (f lo : ℕ) (l : List Order) → Fitted f lo (take (leading f lo l) l)
unfolding leading
fitted_leading f lo [] = tt
fitted_leading f lo (o ∷ l) =
    by_test (fits_after f lo o)
    (λ e. rw e (e, fitted_leading f (suc o.number) l))
    (λ e. rw e tt)

pub formed_fits : (b : Book) → length b.orders ≡ 96 → formed_book b ≡ true → Fits (shelf b)
unfolding formed_unit shelf
formed_fits b h e =
    let f = b.floor in
    let l = b.orders in
    let w = (formed_tells b).0 e in
    let u = and_parts (leb b.size 16) _ w.unit_good in
    let kept = kept_leading f 0 l w.places_good in
    record {
      unit_good = (and_parts (is_unit (take b.size b.unit)) _ u.1).0;
      orders_fit = rw kept (fitted_leading f 0 l);
      room = rw kept (omega (arith, length-take (leading f 0 l) l, leading_long f 0 l, h));
    }

-- THE THEOREM: no deed makes a malformed book of one that is not
pub deed_formed : (d : Deed) (b : Book) → length b.orders ≡ 96 → formed_book b ≡ true → formed_book (deed_outcome_of d b).book ≡ true
unfolding deed_number deed_next
deed_formed d b h e =
    let n = first_number (rungs_of (is_full (shelf b)) d (shelf b)) in
    by_test (could_ask d)
    (λ c. by_test (eqb n 0)
    (λ z. rw (e, c, z) (formed (effect d (shelf b)) (fits_deed d (shelf b) c (eqb-true n 0 z) (formed_fits b h e))))
    (λ z. rw (e, c, z) e))
    (λ c. rw (e, c) e)
