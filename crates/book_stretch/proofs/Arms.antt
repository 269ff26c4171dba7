-- The arms of `hull`, and those of `turned` with the places that each of them uses. Assumes nothing.
use Prim.Native.Nat.{ℕ, suc, min, max, ◌≤◌, ◌<◌}
use Rattle.book_stretch.specs.Steps.{used, added, placed, grown, turned}
use Rattle.book_stretch.specs.Stretches.{stretch, is_used, hull}
use Rattle.book_stretch.specs.declared.Stretch.{Stretch}
use Rattle.book_stretch.specs.declared.joining.Joining.{Joining}
use Rattle.text.proofs.Tests.{by_test, or_parts}
use borrow.Author.Tests.{le-ltb, lt-ltb}
use lib.Dec.{ltb}
use mathlib.Core.Bool.{Bool, true, false, ◌||◌}
use mathlib.Core.Path.{◌≡◌, sym, ap, ◌∙◌}
use native.Mathlib.Omega.{arith}

-- ---- the hull: its start, then its end

module _ (s c h : Stretch) where
  pub start_first : c.from < s.from → h ≡ stretch c.from s.to → h ≡ stretch (min s.from c.from) s.to
  start_first l e = let n : c.from ≡ min s.from c.from = omega arith in e ∙ ap (λ (f : ℕ). stretch f s.to) n

  pub start_own : s.from ≤ c.from → h ≡ s → h ≡ stretch (min s.from c.from) s.to
  start_own l e = let n : s.from ≡ min s.from c.from = omega arith in e ∙ ap (λ (f : ℕ). stretch f s.to) n

  module _ (e : h ≡ stretch (min s.from c.from) s.to) where
    pub end_last : h.to < c.to → stretch h.from c.to ≡ hull s c
    end_last l =
        let n : c.to ≡ max s.to c.to = omega (arith, ap (λ (x : Stretch). x.to) e) in
        λ i. stretch (e i).from (n i)

    pub end_own : c.to ≤ h.to → h ≡ hull s c
    end_own l =
        let n : s.to ≡ max s.to c.to = omega (arith, ap (λ (x : Stretch). x.to) e) in
        e ∙ ap (stretch (min s.from c.from)) n

-- ---- the turn

module _ (c : Stretch) (j : Joining) where
  pub unused_stays : is_used c ≡ false → turned c j ≡ j
  unfolding turned
  unused_stays u = rw u

  module _ (u : is_used c ≡ true) where
    pub before_adds : (j.settled || ltb c.to j.next.from) ≡ true → turned c j ≡ added c j
    unfolding turned
    before_adds e = rw (u, e)

    module _ (e : (j.settled || ltb c.to j.next.from) ≡ false) where
      pub after_places : ltb j.next.to c.from ≡ true → turned c j ≡ added c (placed j)
      unfolding turned
      after_places f = rw (u, e, f)

      pub meeting_grows : ltb j.next.to c.from ≡ false → turned c j ≡ grown c j
      unfolding turned
      meeting_grows f = rw (u, e, f)

-- the same, as the code has them
module _ (c : Stretch) (j : Joining) where
  pub turn_stays : c.to ≡ 0 → j ≡ turned c j
  turn_stays z = sym (unused_stays c j (le-ltb 0 c.to (omega (arith, z))))

  module _ (n : c.to ≡ 0 → ⊥) where
    is_used_lem : is_used c ≡ true
    is_used_lem = lt-ltb 0 c.to (omega (arith, n))

    pub turn_adds : (r : Joining) → (j.settled || ltb c.to j.next.from) ≡ true → r ≡ added c j → r ≡ turned c j
    turn_adds r e a = a ∙ sym (before_adds c j is_used_lem e)

    module _ (e : (j.settled || ltb c.to j.next.from) ≡ false) where
      pub turn_places : (k r : Joining) → j.next.to < c.from → k ≡ placed j → r ≡ added c k → r ≡ turned c j
      turn_places k r l p a = a ∙ ap (added c) p ∙ sym (after_places c j is_used_lem e (lt-ltb j.next.to c.from l))

      pub turn_grows : (h : Stretch) → c.from ≤ j.next.to → h ≡ hull j.next c
          → record { next = h; settled = j.settled; count = j.count; room = j.room } ≡ turned c j
      turn_grows h l a = rw a (sym (meeting_grows c j is_used_lem e (le-ltb j.next.to c.from l)))

-- ---- the places used

module _ (j : Joining) where
  pub count_used : j.count ≤ used j
  count_used = by_test j.settled (λ t. rw t (omega arith)) (λ t. rw t (omega arith))

  pub unsettled_used : j.settled ≡ false → used j ≡ suc j.count
  unsettled_used t = rw t

  pub used_added : (c : Stretch) → used (added c j) ≡ suc (used j)
  used_added c = by_test j.settled (λ t. rw t) (λ t. rw t)

  module _ (few : used j ≤ 4) where
    pub room_one : j.count < 5
    room_one = omega (arith, count_used)

    pub room_two : (t : Bool) (k : Joining) → (j.settled || t) ≡ false → k ≡ placed j → k.count < 5
    room_two t k e p = rw p (omega (arith, unsettled_used (or_parts j.settled t e).0))
