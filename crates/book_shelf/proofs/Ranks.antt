-- The rank of a key: found one by one, and what it tells of rising things. Assumes nothing.
use Prim.Native.Nat.{ℕ, suc, ◌+◌, ◌-◌, ◌≤◌, ◌<◌}
use Rattle.book_lists.specs.Keyed.{Above, Ascending}
use Rattle.book_shelf.specs.Shelf.{thing, between, Rising, rank_of, is_held_at}
use Rattle.text.proofs.Cuts.{upto_length, upto_here, upto_on, upto_end}
use Rattle.text.proofs.Tests.{by_test, and_parts}
use Rattle.text.specs.Bytes.{upto, any}
use borrow.Author.Tests.{leb-true, leb-false, ltb-true, le-leb, lt-leb, lt-ltb, le-ltb, ne_eqb}
use lib.Dec.{eqb, leb, ltb, leb-suc-suc}
use lib.ListN.{length, take, length-take, length-drop}
use lib.Seq.{get_or-take, get_or-drop, length-take-le, length-slice}
use mathlib.Core.Bool.{Bool, true, false, ◌&&◌, ◌||◌}
use mathlib.Core.List.{List, [], ◌∷◌}
use mathlib.Core.Path.{◌≡◌, refl, ap}
use native.Mathlib.Omega.{arith}

module _ {A : Type 0} (key : A → ℕ) where
  -- ---- rising things ascend

  pub above_rising : (k lo : ℕ) (l : List A) → k ≤ lo → Rising key lo l → Above key k l
  above_rising k lo [] h r = tt
  above_rising k lo (o ∷ l) h r = (omega (arith, r.0), above_rising k (suc (key o)) l (omega (arith, r.0)) r.1)

  pub ascending_rising : (lo : ℕ) (l : List A) → Rising key lo l → Ascending key l
  ascending_rising lo [] r = tt
  ascending_rising lo (o ∷ l) r = (above_rising (key o) (suc (key o)) l (omega arith) r.1, ascending_rising (suc (key o)) l r.1)

  -- ---- where a rank lies

  pub rank_most : (n : ℕ) (h : List A) → rank_of key n h ≤ length h
  unfolding rank_of
  rank_most n h = upto_length (λ (o : A). leb n (key o)) h

  pub rank_within : (n count : ℕ) (l : List A) → rank_of key n (take count l) ≤ count
  rank_within n count l = omega (arith, rank_most n (take count l), length-take count l)

module _ {A : Type 0} (key : A → ℕ) (past : A) where
  -- a place where the key is held is the place of a thing
  pub held_short : (n at : ℕ) (h : List A) → is_held_at key past n at h ≡ true → at < length h
  unfolding is_held_at
  held_short n at h e = ltb-true at (length h) (and_parts (ltb at (length h)) (eqb (key (thing past at h)) n) e).0

  -- ---- a seat among the places from..to

  module _ (n from to : ℕ) (l : List A) where
    between_most : length (between from to l) ≤ to - from
    between_most = omega (arith, length-drop from (take to l), length-take to l)

    pub seat_within : from ≤ to → from + rank_of key n (between from to l) ≤ to
    seat_within h = omega (arith, rank_most key n (between from to l), between_most)

    -- one that a thing has is a place of a thing
    pub seat_inside : is_held_at key past n (rank_of key n (between from to l)) (between from to l) ≡ true → from + rank_of key n (between from to l) < to
    seat_inside e = omega (arith, held_short n (rank_of key n (between from to l)) (between from to l) e, between_most)

    -- ---- the loop of seat_of: the places passed, with the rank in those that follow, are the seat

    module _ (i : ℕ) (so_far : i + rank_of key n (between i to l) ≡ from + rank_of key n (between from to l)) where
      module _ (c : to ≤ length l) (h : i < to) where
        long : i < length (take to l)
        long = omega (arith, length-take-le to l c)

        pub ranked_on : key (thing past i l) < n → i + 1 + rank_of key n (between (i + 1) to l) ≡ from + rank_of key n (between from to l)
        unfolding rank_of
        ranked_on e =
            let p : leb n (key (thing past i (take to l))) ≡ false = rw (get_or-take to l i past h) (lt-leb n (key (thing past i l)) e) in
            omega (arith, so_far, ap length (upto_on (λ (o : A). leb n (key o)) past (take to l) i long p))

        pub ranked_here : n ≤ key (thing past i l) → i ≡ from + rank_of key n (between from to l)
        unfolding rank_of
        ranked_here e =
            let p : leb n (key (thing past i (take to l))) ≡ true = rw (get_or-take to l i past h) (le-leb n (key (thing past i l)) e) in
            omega (arith, so_far, ap length (upto_here (λ (o : A). leb n (key o)) past (take to l) i long p))

        pub held_here : n ≤ key (thing past i l)
            → eqb (key (thing past i l)) n ≡ is_held_at key past n (rank_of key n (between from to l)) (between from to l)
        unfolding is_held_at
        held_here e =
            let r : ℕ = rank_of key n (between from to l) in
            let at : i ≡ from + r = ranked_here e in
            let inside : r < length (between from to l) = omega (arith, at, h, length-slice from to l c) in
            rw (lt-ltb r (length (between from to l)) inside, get_or-drop from (take to l) r past, ← at, get_or-take to l i past h)

      module _ (h : to ≤ i) where
        pub ranked_all : i ≡ from + rank_of key n (between from to l)
        unfolding rank_of
        ranked_all = omega (arith, so_far, ap length (upto_end (λ (o : A). leb n (key o)) (take to l) i (omega (arith, length-take to l))))

        pub held_none : false ≡ is_held_at key past n (rank_of key n (between from to l)) (between from to l)
        unfolding is_held_at
        held_none =
            let r : ℕ = rank_of key n (between from to l) in
            rw (le-ltb r (length (between from to l)) (omega (arith, ranked_all, between_most)))

  -- ---- a test that only a thing of the key n can pass: one of rising things passes it exactly if the one at n's rank does

  module _ (p : A → Bool) (n : ℕ) (only : (o : A) → eqb (key o) n ≡ false → p o ≡ false) where
    none_after : (lo : ℕ) (h : List A) → n < lo → Rising key lo h → any p h ≡ false
    unfolding any
    none_after lo [] k r = refl
    none_after lo (o ∷ h) k r =
        rw (only o (ne_eqb (key o) n (λ e. omega (arith, r.0, e)))) (none_after (suc (key o)) h (omega (arith, r.0)) r.1)

    pub any_ranked : (lo : ℕ) (h : List A) → Rising key lo h → any p h ≡ (ltb (rank_of key n h) (length h) && p (thing past (rank_of key n h) h))
    unfolding rank_of any upto
    any_ranked lo [] r = refl
    any_ranked lo (o ∷ h) r =
        by_test (leb n (key o))
        (λ e. rw (e, lt-ltb 0 (suc (length h)) (omega arith), none_after (suc (key o)) h (omega (arith, leb-true n (key o) e)) r.1) (or_none (p o)))
        (λ e.
        rw (e, leb-suc-suc (suc (rank_of key n h)) (length h), only o (ne_eqb (key o) n (λ q. omega (arith, leb-false n (key o) e, q))))
        (any_ranked (suc (key o)) h r.1))
      where
        or_none : (a : Bool) → (a || false) ≡ a
        or_none true = refl
        or_none false = refl

  -- whether one of rising things has the key
  pub held_ranked : (n lo : ℕ) (h : List A) → Rising key lo h → any (λ o. eqb (key o) n) h ≡ is_held_at key past n (rank_of key n h) h
  unfolding is_held_at
  held_ranked n lo h r = any_ranked (λ (o : A). eqb (key o) n) n (λ o e. e) lo h r
