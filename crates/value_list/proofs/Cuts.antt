-- Reading a list part by part, for any element, any reader of one, any room.
-- Assumes nothing.
use Rattle.std.specs.Prelude.{None, Option, Some}
use Prim.Native.Nat.{ℕ, suc, ◌+◌, ◌-◌, ◌≤◌, ◌<◌}
use Rattle.value_list.specs.Lists.{cut_at, cons_read, every_of, counted, some_of}
use Rattle.text.proofs.Cuts.{upto_take, past_drop, upto_length, upto_all}
use Rattle.text.proofs.Tests.{by_test, or_parts}
use Rattle.text.specs.Bytes.{part, upto, past, any, is, first_of, trim}
use borrow.Author.Tests.{le-leb, lt-leb}
use lib.Dec.{eqb}
use lib.ListN.{length, take, drop, set, replicate, length-append, length-drop, length-set, length-replicate, take-append-drop}
use lib.Seq.{drop-drop, drop-cons, take-suc-set, drop-set-lt, length-take-le}
use mathlib.Core.Bool.{true, false, and-false, false≢true}
use mathlib.Core.List.{List, [], ◌∷◌, ◌++◌, append_assoc}
use mathlib.Core.Path.{◌≡◌, refl, sym, ap, ◌∙◌}
use native.Mathlib.Numerals.{add-one}
use native.Mathlib.Omega.{arith}

-- ---- cutting

pub cut_none : (sep : ℕ) (s : List ℕ) → any (is sep) s ≡ false → cut_at sep s ≡ s ∷ []
unfolding any cut_at
cut_none sep [] n = refl
cut_none sep (b ∷ s) n =
    let o = or_parts (eqb b sep) (any (is sep) s) n in
    rw (o.0, cut_none sep s o.1)

pub cut_some : (sep : ℕ) (s : List ℕ) → any (is sep) s ≡ true → cut_at sep s ≡ upto (is sep) s ∷ cut_at sep (past (is sep) s)
unfolding any upto past cut_at
cut_some sep [] h = absurd (false≢true h)
cut_some sep (b ∷ s) h = by_test (eqb b sep) (λ e. rw e) (λ e. rw (e, cut_some sep s (rw e at h)))

-- the first part, whatever follows
pub cut_first : (sep : ℕ) (s : List ℕ) → (more : List (List ℕ)) × (cut_at sep s ≡ upto (is sep) s ∷ more)
cut_first sep s =
    by_test (any (is sep) s) (λ h. (cut_at sep (past (is sep) s), cut_some sep s h))
    (λ n. ([], cut_none sep s n ∙ ap (λ (t : List ℕ). t ∷ []) (sym (upto_all (is sep) s n))))

-- where there is a separator, the first part is shorter than the text
upto_less : (sep : ℕ) (s : List ℕ) → any (is sep) s ≡ true → first_of sep s < length s
unfolding any upto
upto_less sep [] h = absurd (false≢true h)
upto_less sep (b ∷ s) h =
    by_test (eqb b sep) (λ e. rw e (omega arith)) (λ e. let r = upto_less sep s (rw e at h) in rw e (omega arith))

-- ---- the part that starts at a place, and what follows it

module _ (sep : ℕ) (s : List ℕ) (at e : ℕ) (inside : at ≤ length s) (ee : e ≡ at + first_of sep (drop at s)) where
  part_ends : e ≤ length s
  part_ends = omega (arith, upto_length (is sep) (drop at s), length-drop at s)

  pub part_is : upto (is sep) (drop at s) ≡ part at e s
  part_is =
      let h : first_of sep (drop at s) ≡ e - at = omega arith in
      upto_take (is sep) (drop at s) ∙ ap (λ (k : ℕ). take k (drop at s)) h

  part_first : (more : List (List ℕ)) × (cut_at sep (drop at s) ≡ part at e s ∷ more)
  part_first = let c = cut_first sep (drop at s) in (c.0, c.1 ∙ ap (λ (t : List ℕ). t ∷ c.0) part_is)

  part_next : (e ≡ length s → ⊥) → cut_at sep (drop at s) ≡ part at e s ∷ cut_at sep (drop (e + 1) s)
  part_next ne =
      by_test (any (is sep) (drop at s))
      (λ h. let q : at + (first_of sep (drop at s) + 1) ≡ e + 1 = omega arith in
      let d : past (is sep) (drop at s) ≡ drop (e + 1) s =
      past_drop (is sep) (drop at s) ∙ drop-drop (first_of sep (drop at s) + 1) at s
      ∙ ap (λ (k : ℕ). drop k s) q in
      cut_some sep (drop at s) h ∙ rw (d, part_is))
      (λ n. absurd (ne (omega (arith, ap length (upto_all (is sep) (drop at s) n), length-drop at s))))

  part_last : e ≡ length s → cut_at sep (drop at s) ≡ part at e s ∷ []
  part_last el =
      by_test (any (is sep) (drop at s))
      (λ h. absurd (omega (arith, upto_less sep (drop at s) h, length-drop at s)))
      (λ n. cut_none sep (drop at s) n ∙ ap (λ (t : List ℕ). t ∷ []) (sym (upto_all (is sep) (drop at s) n) ∙ part_is))

-- ---- what was read, before what is read of the rest

unfoldable pub onto : {A : Type 0} → List A → Option (List A) → Option (List A)
onto done None = None
onto done (Some l) = Some (done ++ l)

onto_nil : {A : Type 0} (r : Option (List A)) → r ≡ onto [] r
unfolding onto
onto_nil None = refl
onto_nil (Some l) = refl

onto_one : {A : Type 0} (done : List A) (a : A) (r : Option (List A)) → onto done (cons_read (Some a) r) ≡ onto (done ++ (a ∷ [])) r
unfolding cons_read onto
onto_one done a None = refl
onto_one done a (Some l) = ap Some (sym (append_assoc done (a ∷ []) l))

onto_end : {A : Type 0} (done : List A) (a : A) → onto done (cons_read (Some a) (Some [])) ≡ Some (done ++ (a ∷ []))
unfolding cons_read onto
onto_end done a = refl

-- what is read of a text is never nothing
more_than : {A : Type 0} (done : List A) (first : Option A) (r : Option (List A)) (least most : ℕ) → most ≤ length done
    → counted least most (onto done (cons_read first r)) ≡ None
unfolding cons_read onto counted
more_than done None r least most h = refl
more_than done (Some a) None least most h = refl
more_than done (Some a) (Some l) least most h =
    let n : most < length (done ++ (a ∷ l)) = omega (arith, length-append done (a ∷ l)) in
    simp (lt-leb _ _ n, and-false)

module _ {A : Type 0} (read : List ℕ → Option A) (sep : ℕ) (z : A) where
  -- the first n places of a room hold what is read up to a place of the text
  pub record Sofar (s : List ℕ) (at n : ℕ) (room : List A) : Type 0 where
    pub inside : at ≤ length s
    pub within_room : n ≤ length room
    pub unused : drop n room ≡ replicate (length room - n) z
    pub all_parts : every_of read (cut_at sep s) ≡ onto (take n room) (every_of read (cut_at sep (drop at s)))

  pub begin : (s : List ℕ) (k : ℕ) → Sofar s 0 0 (replicate k z)
  begin s k =
      let e : k - 0 ≡ k = omega arith in
      record {
        inside = omega arith;
        within_room = omega arith;
        unused = rw (length-replicate k z, e);
        all_parts = onto_nil (every_of read (cut_at sep s));
      }

  -- more parts than may be
  pub too_many : (s : List ℕ) (at n : ℕ) (room : List A) (least most : ℕ) → Sofar s at n room → most ≤ n → some_of read sep least most s ≡ None
  unfolding some_of every_of
  too_many s at n room least most f h =
      let c = cut_first sep (drop at s) in
      ap (counted least most) (f.all_parts ∙ ap (λ (p : List (List ℕ)). onto (take n room) (every_of read p)) c.1)
      ∙ more_than (take n room) _ _ least most (omega (arith, length-take-le n room f.within_room))

  module _ (s : List ℕ) (at n : ℕ) (room : List A) (e : ℕ) (f : Sofar s at n room) (ee : e ≡ at + first_of sep (drop at s)) where
    pub ends : e ≤ length s
    ends = part_ends sep s at e f.inside ee

    -- a part that cannot be read
    pub bad_part : (least most : ℕ) → read (trim (part at e s)) ≡ None → some_of read sep least most s ≡ None
    unfolding some_of every_of cons_read onto counted
    bad_part least most h =
        let b : every_of read (cut_at sep s) ≡ None = f.all_parts ∙ rw ((part_first sep s at e f.inside ee).1, h) in
        ap (counted least most) b

    module _ (a : A) (fits : n < length room) (h : read (trim (part at e s)) ≡ Some a) where
      taken_one : take (n + 1) (set room n a) ≡ take n room ++ (a ∷ [])
      taken_one = rw (add-one n) (take-suc-set room n a fits)

      unused_one : drop (n + 1) (set room n a) ≡ replicate (length room - (n + 1)) z
      unused_one =
          let m : length room - n ≡ suc (length room - suc n) = omega arith in
          let c : drop n room ≡ replicate (suc (length room - suc n)) z = f.unused ∙ ap (λ (k : ℕ). replicate k z) m in
          drop-set-lt (n + 1) room n a (omega arith) ∙ rw (add-one n) (cons_tail (sym (drop-cons room n z fits) ∙ c))
        where
          cons_tail : {x y : A} {xs ys : List A} → x ∷ xs ≡ y ∷ ys → xs ≡ ys
          cons_tail q = cc

      -- the next part, with more to follow
      pub next_part : (e ≡ length s → ⊥) → Sofar s (e + 1) (n + 1) (set room n a)
      unfolding every_of
      next_part ne =
          record {
            inside = omega (arith, ends);
            within_room = rw (length-set room n a) (omega arith);
            unused = rw (length-set room n a) unused_one;
            all_parts =
                f.all_parts
                ∙ rw (part_next sep s at e f.inside ee ne, h, taken_one) (onto_one (take n room) a (every_of read (cut_at sep (drop (e + 1) s))));
          }

      -- the last part
      module _ (el : e ≡ length s) where
        last_part : every_of read (cut_at sep s) ≡ Some (take (n + 1) (set room n a))
        unfolding every_of
        last_part = f.all_parts ∙ rw (part_last sep s at e f.inside ee el, h, taken_one) (onto_end (take n room) a)

        pub read_count : length (take (n + 1) (set room n a)) ≡ n + 1
        read_count = length-take-le (n + 1) (set room n a) (rw (length-set room n a) (omega arith))

        pub too_few : (least most : ℕ) → n + 1 < least → some_of read sep least most s ≡ None
        unfolding some_of counted
        too_few least most l = ap (counted least most) last_part ∙ rw (read_count, lt-leb _ _ l)

        pub all_read : (least most : ℕ) → least ≤ n + 1 → n + 1 ≤ most → some_of read sep least most s ≡ Some (take (n + 1) (set room n a))
        unfolding some_of counted
        all_read least most l m = ap (counted least most) last_part ∙ rw (read_count, le-leb _ _ l, le-leb _ _ m)

        -- what was read, and zeros past it, is the room
        pub all_room : take (n + 1) (set room n a) ++ replicate (length room - (n + 1)) z ≡ set room n a
        all_room = rw (← unused_one) (take-append-drop (n + 1) (set room n a))
