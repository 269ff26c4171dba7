-- THE THEOREM: request A6. Assumes nothing.
use Prim.Native.Nat.{ℕ, ◌≤◌}
use Rattle.book.proofs.Formed.{formed_tells}
use Rattle.book.specs.Places.{shelf, formed_book}
use Rattle.book.specs.declared.Book.{Book}
use Rattle.book_ledger.proofs.Strikes.{struck_exactly, strike_other}
use Rattle.book_order.specs.Messages.{order_of, strike_of}
use Rattle.book_order.specs.Orders.{time_of, live, sticks_out, makes_five}
use Rattle.book_order.specs.declared.Order.{Order}
use Rattle.book_places.proofs.Leading.{formed_struck}
use Rattle.book_source.proofs.GivenStrikes.{strike_tells}
use Rattle.book_stretch.proofs.Formed.{joined_formed, lies_exactly}
use Rattle.book_stretch.specs.Stretches.{covers, lies, used_in, formed_in, joined}
use Rattle.book_stretch.specs.declared.Stretch.{Stretch}
use Rattle.book_theorems.proofs.Theorems.{kept_by_calls, removal}
use Rattle.demands.specs.Request6.{Request6}
use Rattle.saved.specs.Saved.{save_of}
use Rattle.text.proofs.Tests.{Tells, told, leb_tells, itself, ◌and◌}
use Rattle.text.specs.Bytes.{all, any}
use borrow.Author.Tests.{le-ltb, ltb-false, not-true, not-false}
use lib.ListN.{length}
use mathlib.Core.Bool.{true, false, not}
use mathlib.Core.Logic.{◌↔◌}
use mathlib.Core.Path.{◌≡◌, refl, ap}

outside_all : (o : Order) (t : ℕ) → Tells (live t o) ((covers t (time_of o) ≡ true) × (any (covers t) o.struck ≡ false))
outside_all o t =
    told (itself (covers t (time_of o)) and itself (not (any (covers t) o.struck)))
    (λ p. (p.0, not-true (any (covers t) o.struck) p.1))
    (λ q. (q.0, ap not q.1))

-- a stretch lies in another exactly where both ends do
lies_tells : (s c : Stretch) → Tells (lies s c) ((c.from ≤ s.from) × (s.to ≤ c.to))
lies_tells s c = leb_tells c.from s.from and leb_tells s.to c.to

inside : (c : Stretch) (o : Order) → sticks_out c o ≡ false ↔ (o.start ≤ c.from) × (c.to ≤ o.end)
inside c o =
    let tells = lies_tells c (time_of o) in
    (λ e. tells.0 (not-false (lies c (time_of o)) e), λ p. ap not (tells.1 p))

four : (c : Stretch) (o : Order) → makes_five c o ≡ false ↔ (length (joined c (used_in o.struck)) ≤ 4)
four c o =
    let n = length (joined c (used_in o.struck)) in
    (λ e. ltb-false 4 n e, λ h. le-ltb 4 n h)

formed : (b : Book) → formed_book b ≡ true → all (λ (o : Order). formed_in (time_of o) o.struck) (shelf b).orders ≡ true
unfolding shelf
formed b e = formed_struck b.floor 0 b.orders ((formed_tells b).0 e).places_good

pub request_6 : Request6
unfolding strike_of save_of
request_6 =
    record {
      says = λ r. refl;
      could_strike_iff = strike_tells;
      struck_exactly = struck_exactly;
      others_stay = strike_other;
      outside_all = outside_all;
      malformed = formed;
      joining_keeps = joined_formed;
      by_calls = kept_by_calls;
      left_out = removal;
      covers_whole = λ unit before between later c v q. (lies_tells (time_of (order_of c)) (strike_of v).over).1 q.covers_whole;
      in_order = λ full s b. refl;
      not_inside = inside;
      wholly_struck = λ c o w p. lies_exactly (time_of o) c o.struck w p;
      a_fifth = four;
      partial_unsaved = λ b room f p. rw (f, p);
    }
