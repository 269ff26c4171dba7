-- Every way out of a call on a book, from what its code knows there to the answer that is defined. Assumes nothing.
use Rattle.std.specs.Prelude.{None, Option, Result, Err}
use Prim.Native.Nat.{ℕ, ◌+◌, ◌≤◌, ◌<◌}
use Rattle.book.proofs.Formed.{malformed, refused, by_deed, with_book, deed_malformed, deed_refused, deed_done}
use Rattle.book.proofs.Formed.{asked_malformed, asked_refused, asked_done}
use Rattle.book.proofs.Holding.{Holding, holds_none}
use Rattle.book.specs.Answers.{outcome, outcome_by, outcome_of, deed_outcome_of, InForce, Refused, found, asked_of, Unshown, Shows, shown_of}
use Rattle.book.specs.Places.{with_orders, book_of, shelf, tally_of, unfit_in}
use Rattle.book.specs.declared.Book.{Book}
use Rattle.book_ledger.specs.Calls.{Call, command, revoke, close, Deed, hold, strike, shut, unfit, could_ask}
use Rattle.book_ledger.specs.Ledger.{effect, rungs_of, is_full}
use Rattle.book_lists.proofs.Least.{least_insert, least_map}
use Rattle.book_lists.proofs.Sorting.{length_insert}
use Rattle.book_lists.specs.Keyed.{keep, insert, greatest, sooner, Ascending}
use Rattle.book_order.specs.Messages.{order_of, strike_of}
use Rattle.book_order.specs.Orders.{Strike, Struck, number, name_of, named, live, past_end, next_end, strike_for, could_strike, strike_refusals, struck_by, strike_at}
use Rattle.book_order.specs.Orders.{outside, already, crowded, is_brought}
use Rattle.book_order.specs.declared.Order.{Order}
use Rattle.book_places.proofs.Seats.{held_seat, any_seat, put_seat, change_seat}
use Rattle.book_places.proofs.Seats as seats
use Rattle.book_places.proofs.Staying.{kept_all}
use Rattle.book_places.specs.Places.{packed, order_at, Seat, seat_in, kept_of}
use Rattle.book_places.specs.declared.Kept.{Kept}
use Rattle.book_shelf.proofs.Ranks.{ascending_rising}
use Rattle.book_shelf.proofs.Replacing.{replace_set}
use Rattle.book_shelf.specs.Shelf.{put_in, replaced}
use Rattle.book_source.proofs.Comes.{comes, instants_fit, names_fit, revoked_fit}
use Rattle.book_stretch.specs.Stretches.{are_none}
use Rattle.book_stretch.specs.declared.Stretch.{Stretch}
use Rattle.layout.specs.Layouts.{is_command, is_revocation}
use Rattle.layout.specs.declared.Layout.{Layout}
use Rattle.record.specs.declared.Record.{Record}
use Rattle.record_check.specs.Validity.{is_valid}
use Rattle.refusal.specs.Numbers.{number_of}
use Rattle.refusal.specs.Results.{detail_in}
use Rattle.refusal.specs.declared.Refusal.{Refusal as Reason}
use Rattle.report_brief.specs.Brief.{unit_of, start_of, end_of}
use Rattle.text.proofs.Tests.{by_test}
use Rattle.text.specs.Bytes.{any, all, same}
use Rattle.text.specs.Refusals.{Refusal, refusal as row, first_number}
use Rattle.value_ask.specs.Values.{instant_in}
use borrow.Author.Tests.{le-leb, lt-leb, lt-ltb, le-ltb, ne_eqb, eqb-false}
use lib.Dec.{eqb, leb}
use lib.ListN.{length, take, set, length-map}
use lib.Seq.{length-take-le, take-append_seam}
use mathlib.Core.Bool.{Bool, true, false, not}
use mathlib.Core.List.{List, [], ◌∷◌, map}
use mathlib.Core.Path.{◌≡◌, refl, sym, ap, ◌∙◌}
use native.Mathlib.Omega.{arith}

-- ---- 20

pub call_malformed : (k : Call) (b : Book) (y : Option ℕ) → y ≡ tally_of b → y ≡ None → outcome 20 b ≡ outcome_of k b
call_malformed k b y e h = malformed k b (holds_none b y e h)

pub undone_malformed : (d : Deed) (b : Book) (y : Option ℕ) → y ≡ tally_of b → y ≡ None → outcome 20 b ≡ deed_outcome_of d b
undone_malformed d b y e h = deed_malformed d b (holds_none b y e h)

pub question_malformed : (t : ℕ) (b : Book) (y : Option ℕ) → y ≡ tally_of b → y ≡ None
    → record { answer = Refused 20 0; book = b } ≡ asked_of t b
question_malformed t b y e h = asked_malformed t b (holds_none b y e h)

pub panel_malformed : (b : Book) (y : Option ℕ) → y ≡ tally_of b → y ≡ None → record { answer = Unshown 20 0; book = b } ≡ shown_of b
unfolding shown_of
panel_malformed b y e h = rw (holds_none b y e h)

-- ---- a refusal of a part, which tells nothing beside its number

pub plain : {A : Type 0} (x : Result A Reason) (e : Reason) → x ≡ Err e → detail_in x ≡ 0 → (b : Book)
    → outcome_by (record { answer = Err e; book = b }) ≡ outcome (number_of e) b
plain x e is d b = λ i. record { number = number_of e; detail = (ap detail_in (sym is) ∙ d) i; book = b }

-- ---- what is refused for the message alone stands before all else

-- 12, 29 and 21 before the rest
abbrev three : Bool → Bool → Bool → List Refusal → List Refusal
three a b c rest = row 12 0 a ∷ row 29 0 b ∷ row 21 0 c ∷ rest

three_some : (a b c : Bool) (rest : List Refusal) → (first_number (three a b c []) ≡ 0 → ⊥) → first_number (three a b c rest) ≡ first_number (three a b c [])
three_some true b c rest n = refl
three_some false true c rest n = refl
three_some false false true rest n = refl
three_some false false false rest n = absurd (n refl)

three_none : (a b c : Bool) (rest : List Refusal) → first_number (three a b c []) ≡ 0 → first_number (three a b c rest) ≡ first_number rest
three_none true b c rest e = absurd (eqb-false 12 0 refl e)
three_none false true c rest e = absurd (eqb-false 29 0 refl e)
three_none false false true rest e = absurd (eqb-false 21 0 refl e)
three_none false false false rest e = refl

module _ (calls : Layout → Bool) (unit : List ℕ) (r : Record) (right : Bool) (which : right ≡ calls r.layout) (n : ℕ) (u : n ≡ unfit_in right unit r) where
  unfit_some : (rest : List Refusal) → (n ≡ 0 → ⊥) → first_number (unfit calls unit r rest) ≡ n
  unfolding unfit_in
  unfit_some rest z = rw (← which) (three_some (not (is_valid r)) (not right) (not (same (unit_of r) unit)) rest (λ e. z (u ∙ e)) ∙ sym u)

  unfit_none : (rest : List Refusal) → n ≡ 0 → first_number (unfit calls unit r rest) ≡ first_number rest
  unfolding unfit_in
  unfit_none rest z = rw (← which) (three_none (not (is_valid r)) (not right) (not (same (unit_of r) unit)) rest (sym u ∙ z))

  -- a message that is not refused for itself is valid, and of the call's layout
  fit_both : n ≡ 0 → (is_valid r ≡ true) × (calls r.layout ≡ true)
  unfolding unfit_in
  fit_both z = let p = both (is_valid r) right (sym u ∙ z) in (p.0, sym which ∙ p.1)
    where
      both : (v w : Bool) → first_number (three (not v) (not w) (not (same (unit_of r) unit)) []) ≡ 0 → (v ≡ true) × (w ≡ true)
      both true true e = (refl, refl)
      both true false e = absurd (eqb-false 29 0 refl e)
      both false w e = absurd (eqb-false 12 0 refl e)

-- so that its instants fit, and both are calls for what some valid message brings
module _ (unit : List ℕ) (r : Record) (right : Bool) (n : ℕ) (u : n ≡ unfit_in right unit r) (z : n ≡ 0) where
  pub command_instants : right ≡ is_command r.layout → (instant_in (start_of r) ≤ 4294967295) × (instant_in (end_of r) ≤ 4294967295)
  command_instants which = let f = fit_both is_command unit r right which n u z in instants_fit r f.0 f.1

  pub command_brings : right ≡ is_command r.layout → is_brought (order_of r) ≡ true
  unfolding is_brought order_of are_none all
  command_brings which = let f = fit_both is_command unit r right which n u z in rw (comes r f.0 f.1)

  pub revocation_instants : right ≡ is_revocation r.layout → (instant_in (start_of r) ≤ 4294967295) × (instant_in (end_of r) ≤ 4294967295)
  revocation_instants which = let f = fit_both is_revocation unit r right which n u z in revoked_fit r f.0 f.1

  pub revocation_names : right ≡ is_revocation r.layout → could_strike (strike_of r) ≡ true
  revocation_names which = let f = fit_both is_revocation unit r right which n u z in names_fit r f.0 f.1

-- a number and a stretch as a record says them
pub could_be : (r : Record) (m : ℕ) (over : Stretch) → m ≡ (strike_of r).name.number → over ≡ (strike_of r).over → could_strike (strike_of r) ≡ true
    → could_strike (strike_for m over) ≡ true
could_be r m over e d c = (λ i. could_strike (strike_for (e i) (d i))) ∙ c

module _ (b : Book) (count : ℕ) (h : Holding b count) where
  fits : count ≤ length b.orders
  fits = omega (arith, h.few, h.size.long)

  -- the panel's numbers, of the places that are looked at
  many : b.held ≡ length (take count b.orders)
  many = h.panel.0 ∙ ap length h.held

  soon : b.next ≡ next_end (take count b.orders)
  soon = h.panel.1 ∙ ap next_end h.held

  -- the places that are looked at stand by ascending number, and one that the test finds is a place of the book
  pub ascends : Ascending number (take count b.orders)
  ascends = ascending_rising number 0 (take count b.orders) h.rising

  -- ---- a deed that some valid message asks for

  module _ (d : Deed) (c : could_ask d ≡ true) where
    no_deed : (n : ℕ) → first_number (rungs_of (is_full (shelf b)) d (shelf b)) ≡ n → eqb n 0 ≡ false → outcome n b ≡ deed_outcome_of d b
    no_deed n a z = deed_refused d b h.formed c n a z

    -- one that makes a book with these orders
    makes : (f held soon : ℕ) (l m : List Order) (next : Book) → first_number (rungs_of (is_full (shelf b)) d (shelf b)) ≡ 0
        → next ≡ with_orders b f held soon l → l ≡ packed m → held ≡ length m → soon ≡ next_end m
        → record { unit = (shelf b).unit; floor = f; orders = m } ≡ effect d (shelf b) → outcome 0 next ≡ deed_outcome_of d b
    makes f held soon l m next a e p n x q =
        deed_done d b h.formed c 0 a refl next (e ∙ with_book b f held soon l m h.size.wide h.formed p n x ∙ ap book_of q)

  -- ---- hold: 23, 22, 24

  module _ (o : Order) (c : is_brought o ≡ true) where
    abbrev others : List Refusal
    others = row 23 0 (leb o.end b.floor) ∷ row 22 0 (any (named (name_of o)) (take count b.orders)) ∷ row 24 0 (leb 96 count) ∷ []

    hold_rest : first_number (rungs_of (is_full (shelf b)) (hold o) (shelf b)) ≡ first_number others
    unfolding shelf
    hold_rest = rw (h.held, length-take-le count b.orders fits)

    pub hold_late : o.end ≤ b.floor → outcome 23 b ≡ deed_outcome_of (hold o) b
    hold_late k = no_deed (hold o) c 23 (hold_rest ∙ rw (le-leb o.end b.floor k)) refl

    module _ (timely : b.floor < o.end) (seat : Seat) (seated : seat ≡ seat_in o.number 0 count b.orders) where
      hold_test : any (named (name_of o)) (take count b.orders) ≡ seat.held
      hold_test = held_seat count b.orders h.rising (name_of o) ∙ ap (λ (s : Seat). s.held) (sym seated)

      pub hold_held : seat.held ≡ true → outcome 22 b ≡ deed_outcome_of (hold o) b
      hold_held t = no_deed (hold o) c 22 (hold_rest ∙ rw (lt-leb o.end b.floor timely, hold_test ∙ t)) refl

      module _ (t : seat.held ≡ false) where
        hold_last : first_number (rungs_of (is_full (shelf b)) (hold o) (shelf b)) ≡ first_number (row 24 0 (leb 96 count) ∷ [])
        hold_last = hold_rest ∙ rw (lt-leb o.end b.floor timely, hold_test ∙ t)

        pub hold_full : count ≡ 96 → outcome 24 b ≡ deed_outcome_of (hold o) b
        hold_full e = no_deed (hold o) c 24 (hold_last ∙ rw e) refl

        pub hold_done : (count ≡ 96 → ⊥) → (l : List Order) → l ≡ put_in seat.at count o b.orders
            → (x : ℕ) → x ≡ sooner b.next o.end → (next : Book) → next ≡ with_orders b b.floor (count + 1) x l
            → outcome 0 next ≡ deed_outcome_of (hold o) b
        unfolding shelf
        hold_done e l put x early next m =
            let k : count < 96 = omega (arith, h.few, e) in
            let held = take count b.orders in
            makes (hold o) c b.floor (count + 1) x l (insert number o held) next
            (hold_last ∙ rw (lt-leb 96 count k)) m
            (put ∙ ap (λ (s : Seat). put_in s.at count o b.orders) seated
            ∙ put_seat count b.orders h.size.long h.places o k (ap (λ (s : Seat). s.held) (sym seated) ∙ t))
            (omega (arith, length_insert number o held, length-take-le count b.orders fits))
            (early ∙ ap (λ (n : ℕ). sooner n o.end) soon ∙ sym (least_insert number (λ (y : Order). y.end) o held))
            (rw h.held)

  -- ---- strike: 25, and what the order that has the number answers

  module _ (n : ℕ) (over : Stretch) (c : could_strike (strike_for n over) ≡ true) (seat : Seat) (seated : seat ≡ seat_in n 0 count b.orders) where
    abbrev s : Strike
    s = strike_for n over

    abbrev unheld : List Refusal
    unheld =
        row 25 0 (not (any (named s.name) (take count b.orders)))
        ∷ row 31 0 (any (outside s) (take count b.orders))
        ∷ row 26 0 (any (already s) (take count b.orders))
        ∷ row 32 0 (any (crowded s) (take count b.orders))
        ∷ []

    strike_rest : first_number (rungs_of (is_full (shelf b)) (strike s) (shelf b)) ≡ first_number unheld
    unfolding shelf
    strike_rest = rw h.held

    strike_test : any (named s.name) (take count b.orders) ≡ seat.held
    strike_test = held_seat count b.orders h.rising s.name ∙ ap (λ (x : Seat). x.held) (sym seated)

    pub strike_unheld : seat.held ≡ false → outcome 25 b ≡ deed_outcome_of (strike s) b
    strike_unheld t = no_deed (strike s) c 25 (strike_rest ∙ rw (strike_test ∙ t)) refl

    module _ (t : seat.held ≡ true) where
      its_held : (seat_in n 0 count b.orders).held ≡ true
      its_held = ap (λ (x : Seat). x.held) (sym seated) ∙ t

      pub at_inside : seat.at < 96
      at_inside = omega (arith, h.few, seats.seat_inside n 0 count b.orders seat seated t)

      abbrev it : Order
      it = order_at seat.at b.orders

      -- a test that only that order can pass
      at_seat : (p : Order → Bool) → ((o : Order) → eqb o.number n ≡ false → p o ≡ false) → any p (take count b.orders) ≡ p it
      at_seat p only =
          any_seat count b.orders h.rising p n only its_held ∙ ap (λ (x : Seat). p (order_at x.at b.orders)) (sym seated)

      named_it : named s.name it ≡ true
      named_it = sym (at_seat (named s.name) (λ o z. z)) ∙ strike_test ∙ t

      strike_last : first_number (rungs_of (is_full (shelf b)) (strike s) (shelf b)) ≡ first_number (strike_refusals over it)
      strike_last =
          strike_rest
          ∙ rw (
            strike_test ∙ t,
            at_seat (outside s) (λ o z. rw z),
            at_seat (already s) (λ o z. rw z),
            at_seat (crowded s) (λ o z. rw z),
            named_it,
          )

      module _ (struck : Struck) (done : struck ≡ struck_by over it) where
        answer_is : first_number (strike_refusals over it) ≡ struck.number
        unfolding struck_by
        answer_is = ap (λ (x : Struck). x.number) (sym done)

        pub strike_refused : (struck.number ≡ 0 → ⊥) → outcome struck.number b ≡ deed_outcome_of (strike s) b
        strike_refused z = no_deed (strike s) c struck.number (strike_last ∙ answer_is) (ne_eqb struck.number 0 z)

        module _ (z : struck.number ≡ 0) where
          order_is : struck.order ≡ strike_at s it
          unfolding struck_by
          order_is = ap (λ (x : Struck). x.order) done ∙ rw (answer_is ∙ z, named_it)

          stored : set b.orders seat.at struck.order ≡ packed (map (strike_at s) (take count b.orders))
          stored =
              let l = b.orders in
              rw order_is
              (replace_set seat.at (strike_at s it) l (omega (arith, at_inside, h.size.long))
              ∙ ap (λ (y : Seat). replaced y.at (strike_at s (order_at y.at l)) l) seated
              ∙ change_seat count l h.size.long h.places n (strike_at s) (λ y z. rw z) h.few h.rising its_held)

          pub strike_done : (next : Book) → next ≡ with_orders b b.floor b.held b.next (set b.orders seat.at struck.order)
              → outcome 0 next ≡ deed_outcome_of (strike s) b
          unfolding shelf
          strike_done next q =
              let held = take count b.orders in
              makes (strike s) c b.floor b.held b.next (set b.orders seat.at struck.order) (map (strike_at s) held) next
              (strike_last ∙ answer_is ∙ z) q stored
              (many ∙ sym (length-map held (strike_at s)))
              (soon ∙ sym (least_map (λ (y : Order). y.end) (strike_at s) (λ y. by_test (named s.name y) (λ e. rw e) (λ e. rw e)) held))
              (rw h.held)

  -- ---- close

  pub close_early : (t : ℕ) → t < b.floor → outcome 27 b ≡ outcome_of (close t) b
  unfolding shelf
  close_early t k = refused (close t) b h.size.long h.size.wide h.formed 27 (rw (lt-ltb t b.floor k)) refl

  pub close_done : (t : ℕ) → b.floor ≤ t → (kept : Kept) → kept ≡ kept_of 0 count count t b.orders
      → (x : ℕ) → x ≡ next_end (take kept.count kept.orders) → (next : Book) → next ≡ with_orders b t kept.count x kept.orders
      → outcome 0 next ≡ outcome_of (close t) b
  unfolding shelf
  close_done t k kept done x early next e =
      let left = keep (past_end t) (take count b.orders) in
      let stays = kept_all count t b.orders in
      let orders : kept.orders ≡ packed left = ap (λ (y : Kept). y.orders) done ∙ ap packed stays in
      let few : kept.count ≡ length left = ap (λ (y : Kept). y.count) done ∙ ap length stays in
      makes (shut t) refl t kept.count x kept.orders left next (rw (le-ltb t b.floor k)) e orders few
      (early ∙ rw (orders, few) (ap next_end (take-append_seam left _))) (rw h.held)
      ∙ by_deed (close t) b h.size.long h.size.wide h.formed refl refl

  -- ---- a call with a message

  module _ (r : Record) (right : Bool) (n : ℕ) (u : n ≡ unfit_in right (take b.size b.unit) r) where
    abbrev unit : List ℕ
    unit = take b.size b.unit

    -- what follows the refusals for the message
    abbrev rest : Deed → List Refusal
    rest d = rungs_of (is_full (shelf b)) d (shelf b)

    module _ (which : right ≡ is_command r.layout) where
      pub command_unfit : (n ≡ 0 → ⊥) → outcome n b ≡ outcome_of (command r) b
      unfolding shelf
      command_unfit z =
          refused (command r) b h.size.long h.size.wide h.formed n
          (unfit_some is_command unit r right which n u (rest (hold (order_of r))) z) (ne_eqb n 0 z)

      pub command_holds : n ≡ 0 → (o : Order) → o ≡ order_of r → deed_outcome_of (hold o) b ≡ outcome_of (command r) b
      unfolding shelf
      command_holds z o e =
          ap (λ (x : Order). deed_outcome_of (hold x) b) e
          ∙ by_deed (command r) b h.size.long h.size.wide h.formed (command_brings unit r right n u z which)
          (unfit_none is_command unit r right which n u (rest (hold (order_of r))) z)

    module _ (which : right ≡ is_revocation r.layout) where
      pub revoke_unfit : (n ≡ 0 → ⊥) → outcome n b ≡ outcome_of (revoke r) b
      unfolding shelf
      revoke_unfit z =
          refused (revoke r) b h.size.long h.size.wide h.formed n
          (unfit_some is_revocation unit r right which n u (rest (strike (strike_of r))) z) (ne_eqb n 0 z)

      pub revoke_strikes : n ≡ 0 → (m : ℕ) (over : Stretch) → m ≡ (strike_of r).name.number → over ≡ (strike_of r).over
          → deed_outcome_of (strike (strike_for m over)) b ≡ outcome_of (revoke r) b
      unfolding shelf
      revoke_strikes z m over e d =
          (λ i. deed_outcome_of (strike (strike_for (e i) (d i))) b)
          ∙ by_deed (revoke r) b h.size.long h.size.wide h.formed (revocation_names unit r right n u z which)
          (unfit_none is_revocation unit r right which n u (rest (strike (strike_of r))) z)

  -- ---- the panel

  pub panel_shows : record { answer = Shows b.held b.next; book = b } ≡ shown_of b
  unfolding shown_of
  panel_shows = rw h.formed

  -- ---- the question

  pub question_early : (t : ℕ) → t < b.floor → record { answer = Refused 28 0; book = b } ≡ asked_of t b
  unfolding shelf
  question_early t k = asked_refused t b 28 h.formed (rw (lt-ltb t b.floor k)) refl

  pub question_done : (t : ℕ) → b.floor ≤ t → (a : InForce) → a ≡ found (greatest number (live t) (take count b.orders))
      → record { answer = a; book = b } ≡ asked_of t b
  unfolding shelf
  question_done t k a e = rw (e, ← h.held) (asked_done t b h.formed (rw (le-ltb t b.floor k)))
