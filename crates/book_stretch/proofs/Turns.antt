-- The turns of specs/Steps.antt make `joined`: what stands in the room, with what the stretch makes of those to come, is all of it. Assumes nothing.
use Prim.Native.Nat.{ℕ, suc, ◌+◌, ◌-◌, ◌≤◌, ◌<◌}
use Rattle.book_shelf.specs.Shelf.{packed, thing}
use Rattle.book_stretch.proofs.Arms.{unused_stays, before_adds, after_places, meeting_grows, count_used, unsettled_used, used_added}
use Rattle.book_stretch.proofs.Four.{four_of, four_packed}
use Rattle.book_stretch.specs.Steps.{starting, used, grown, turned, finished}
use Rattle.book_stretch.specs.Stretches.{no_stretch, is_used, used_in, joined, joined_in}
use Rattle.book_stretch.specs.declared.Stretch.{Stretch}
use Rattle.book_stretch.specs.declared.joining.Joining.{Joining}
use Rattle.text.proofs.Tests.{by_test, or_parts}
use lib.Dec.{ltb}
use lib.ListN.{length, drop, set, replicate, length-append, drop_of_length-le}
use lib.Seq.{drop-cons, append_snoc, set_at}
use mathlib.Core.Bool.{true, false, ◌||◌, cond}
use mathlib.Core.List.{List, [], ◌∷◌, ◌++◌, append-nil}
use mathlib.Core.Path.{◌≡◌, refl, sym, ap, ◌∙◌}
use native.Mathlib.Numerals.{add-one}
use native.Mathlib.Omega.{arith}

-- ---- what stands in the room

-- these, in the first places of the room, counted
pub record Has (count : ℕ) (room done : List Stretch) : Type 0 where
  pub count_is : count ≡ length done
  pub room_is : room ≡ packed no_stretch 5 done

packed_set : (done : List Stretch) (c : Stretch) → length done < 5 → set (packed no_stretch 5 done) (length done) c ≡ packed no_stretch 5 (done ++ (c ∷ []))
packed_set done c h =
    let n : 5 - length done ≡ suc (5 - (length done + 1)) = omega (arith, h) in
    rw (n, set_at done no_stretch (replicate (5 - (length done + 1)) no_stretch) c (length done) refl, length-append done (c ∷ []), append_snoc)

-- and one more
has_more : (count : ℕ) (room done : List Stretch) (c : Stretch) → count < 5 → Has count room done → Has (suc count) (set room count c) (done ++ (c ∷ []))
has_more count room done c h has =
    record {
      count_is = rw (length-append done (c ∷ [])) (omega (arith, has.count_is));
      room_is = rw (has.room_is, has.count_is) (packed_set done c (omega (arith, h, has.count_is)));
    }

-- ---- what the stretch makes of those to come: nothing more once it stands in the room

abbrev ahead : Joining → List Stretch → List Stretch
ahead j l = cond j.settled l (joined j.next l)

module _ (c : Stretch) (l : List Stretch) (j : Joining) where
  ahead_before : (j.settled || ltb c.to j.next.from) ≡ true → ahead j (c ∷ l) ≡ c ∷ ahead j l
  unfolding joined
  ahead_before e = by_test j.settled (λ t. rw t) (λ t. let b : ltb c.to j.next.from ≡ true = rw t at e in rw (t, b))

  module _ (s : j.settled ≡ false) (b : ltb c.to j.next.from ≡ false) where
    ahead_after : ltb j.next.to c.from ≡ true → ahead j (c ∷ l) ≡ j.next ∷ c ∷ l
    unfolding joined
    ahead_after f = rw (s, b, f)

    ahead_meeting : ltb j.next.to c.from ≡ false → ahead j (c ∷ l) ≡ ahead (grown c j) l
    unfolding joined
    ahead_meeting f = rw (s, b, f)

-- ---- the turns

-- i have come, l is left, and all is what there will be
pub record Came (all : List Stretch) (i : ℕ) (l : List Stretch) (j : Joining) : Type 0 where
  pub done : List Stretch
  pub has : Has j.count j.room done
  pub fits : used j ≤ suc i
  pub whole : done ++ ahead j l ≡ all

came_first : (s : Stretch) (l : List Stretch) (j : Joining) → j ≡ starting s → Came (joined s l) 0 l j
came_first s l j e = rw e (record { done = []; has = record { count_is = refl; room_is = refl }; fits = omega arith; whole = refl })

module _ (all : List Stretch) (i : ℕ) (c : Stretch) (l : List Stretch) (j : Joining) (few : i < 4) where
  came_unused : is_used c ≡ false → Came all i l j → Came all (suc i) l (turned c j)
  came_unused u p = rw (unused_stays c j u) (record { done = p.done; has = p.has; fits = omega (arith, p.fits); whole = p.whole })

  came_used : is_used c ≡ true → Came all i (c ∷ l) j → Came all (suc i) l (turned c j)
  came_used u p =
      let room : j.count < 5 = omega (arith, p.fits, count_used j, few) in
      by_test (j.settled || ltb c.to j.next.from)
      (λ e.
      rw (before_adds c j u e)
      (record {
        done = p.done ++ (c ∷ []);
        has = has_more j.count j.room p.done c room p.has;
        fits = omega (arith, p.fits, used_added j c);
        whole = append_snoc p.done c (ahead j l) ∙ rw (ahead_before c l j e) at p.whole;
      }))
      (λ e.
      let q = or_parts j.settled (ltb c.to j.next.from) e in
      by_test (ltb j.next.to c.from)
      (λ f.
      rw (after_places c j u e f)
      (record {
        done = (p.done ++ (j.next ∷ [])) ++ (c ∷ []);
        has =
            has_more (suc j.count) (set j.room j.count j.next) (p.done ++ (j.next ∷ [])) c
            (omega (arith, p.fits, unsettled_used j q.0, few))
            (has_more j.count j.room p.done j.next room p.has);
        fits = omega (arith, p.fits, unsettled_used j q.0);
        whole =
            append_snoc (p.done ++ (j.next ∷ [])) c l ∙ append_snoc p.done j.next (c ∷ l)
            ∙ rw (ahead_after c l j q.0 q.1 f) at p.whole;
      }))
      (λ f.
      rw (meeting_grows c j u e f)
      (record {
        done = p.done;
        has = p.has;
        fits = omega (arith, p.fits);
        whole = rw (ahead_meeting c l j q.0 q.1 f) at p.whole;
      })))

-- once none is left, the room has all
came_last : (all : List Stretch) (i : ℕ) (j : Joining) → i ≤ 4 → Came all i [] j → Has (finished j).count (finished j).room all
unfolding joined
came_last all i j few p =
    by_test j.settled
    (λ t.
    let w : p.done ++ [] ≡ all = rw t at p.whole in
    rw t (rw (sym (append-nil p.done) ∙ w) at p.has))
    (λ t.
    let w : p.done ++ (j.next ∷ []) ≡ all = rw t at p.whole in
    rw t (rw w at (has_more j.count j.room p.done j.next (omega (arith, p.fits, unsettled_used j t, few)) p.has)))

-- ---- a call of `join`: s, and the four of l

-- after i turns
pub record After (s : Stretch) (l : List Stretch) (i : ℕ) (j : Joining) : Type 0 where
  pub four : length l ≡ 4
  pub came : Came (joined s (used_in l)) i (used_in (drop i l)) j

module _ (s : Stretch) (l : List Stretch) where
  pub after_none : (j : Joining) → length l ≡ 4 → j ≡ starting s → After s l 0 j
  after_none j h e = record { four = h; came = came_first s (used_in l) j e }

  pub after_one : (i : ℕ) (j k : Joining) → i < 4 → After s l i j → k ≡ turned (thing no_stretch i l) j → After s l (i + 1) k
  after_one i j k few a e =
      let c : Stretch = thing no_stretch i l in
      let all = joined s (used_in l) in
      let rest = used_in (drop (suc i) l) in
      let p : Came all i (cond (is_used c) (c ∷ rest) rest) j = rw (drop-cons l i no_stretch (omega (arith, a.four, few))) at a.came in
      let q : Came all (suc i) rest (turned c j) =
      by_test (is_used c) (λ u. came_used all i c rest j few u (rw u at p)) (λ u. came_unused all i c rest j few u (rw u at p)) in
      rw (add-one i) (record { four = a.four; came = rw e q })

  pub after_all : (j k : Joining) → After s l 4 j → k ≡ finished j → record { count = k.count; list = four_of k.room } ≡ joined_in s l
  unfolding joined_in
  after_all j k a e =
      let all = joined s (used_in l) in
      let p : Came all 4 [] j = rw (drop_of_length-le l {i = 4} (omega (arith, a.four))) at a.came in
      let has = came_last all 4 j (omega arith) p in
      rw e (λ i. record { count = has.count_is i; list = (ap four_of has.room_is ∙ four_packed all) i })
