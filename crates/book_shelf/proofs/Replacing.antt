-- Another thing at a place; and a change of the one thing that has a key, which of rising things stands at its rank. Assumes nothing.
use Prim.Native.Nat.{ℕ, suc, ◌-◌, ◌≤◌, ◌<◌}
use Rattle.book_shelf.proofs.Ranks.{held_short}
use Rattle.book_shelf.specs.Shelf.{packed, thing, replaced, Rising, rank_of, is_held_at}
use Rattle.text.proofs.Tests.{by_test}
use Rattle.text.specs.Bytes.{upto}
use borrow.Author.Tests.{leb-true, leb-false, ne_eqb}
use lib.Dec.{eqb, leb, ltb, leb-suc-suc}
use lib.ListN.{length, take, drop, set, replicate, length-map}
use lib.Seq.{length-take-le, set_split, drop-append-le, take-take, get_or-take}
use mathlib.Core.Bool.{true, false, ◌&&◌, false≢true}
use mathlib.Core.List.{List, [], ◌∷◌, ◌++◌, map, append_assoc}
use mathlib.Core.Path.{◌≡◌, refl, sym, ap, ◌∙◌}
use native.Mathlib.Omega.{arith}

-- the store
pub replace_set : {A : Type 0} (at : ℕ) (o : A) (l : List A) → at < length l → set l at o ≡ replaced at o l
unfolding replaced
replace_set at o l h = set_split l at o h

-- a thing whose key is not n stays as it is
module _ {A : Type 0} (key : A → ℕ) (past : A) (n : ℕ) (f : A → A) (others : (o : A) → eqb (key o) n ≡ false → f o ≡ o) where
  none_changed : (lo : ℕ) (h : List A) → n < lo → Rising key lo h → map f h ≡ h
  none_changed lo [] k r = refl
  none_changed lo (o ∷ h) k r =
      rw (others o (ne_eqb (key o) n (λ e. omega (arith, k, r.0, e))))
      (ap (λ (m : List A). o ∷ m) (none_changed (suc (key o)) h (omega (arith, k, r.0)) r.1))

  -- of rising things one has the key, and it stands at its rank
  pub change_ranked : (lo : ℕ) (h : List A) → Rising key lo h → is_held_at key past n (rank_of key n h) h ≡ true
      → map f h ≡ replaced (rank_of key n h) (f (thing past (rank_of key n h) h)) h
  unfolding rank_of upto is_held_at replaced
  change_ranked lo [] r e = absurd (false≢true e)
  change_ranked lo (o ∷ h) r e =
      by_test (leb n (key o))
      (λ q. rw (q, none_changed (suc (key o)) h (omega (arith, leb-true n (key o) q)) r.1))
      (λ q.
      let z : (ltb (rank_of key n h) (length h) && eqb (key (thing past (rank_of key n h) h)) n) ≡ true =
      rw (q, leb-suc-suc (suc (rank_of key n h)) (length h)) at e in
      rw (q, others o (ne_eqb (key o) n (λ k. omega (arith, leb-false n (key o) q, k))))
      (ap (λ (m : List A). o ∷ m) (change_ranked (suc (key o)) h r.1 z)))

  -- in the first places
  pub change_packed : (none : A) (size lo count : ℕ) (l : List A) → length l ≡ size → l ≡ packed none size (take count l) → count ≤ size
      → Rising key lo (take count l) → is_held_at key past n (rank_of key n (take count l)) (take count l) ≡ true
      → replaced (rank_of key n (take count l)) (f (thing past (rank_of key n (take count l)) l)) l ≡ packed none size (map f (take count l))
  unfolding replaced
  change_packed none size lo count l w e c r t =
      let at : ℕ = rank_of key n (take count l) in
      let s : length (take count l) ≡ count = length-take-le count l (omega (arith, w, c)) in
      let k : at < count = omega (arith, s, held_short key past n at (take count l) t) in
      let d : drop (suc at) l ≡ drop (suc at) (take count l) ++ replicate (size - count) none =
      ap (drop (suc at)) e ∙ rw s (drop-append-le (suc at) (take count l) (replicate (size - count) none) (omega (arith, k, s))) in
      let before : take at (take count l) ≡ take at l = take-take at count l (omega (arith, k)) in
      rw (length-map (take count l) f, s, change_ranked lo (take count l) r t, before, get_or-take count l at past k, d)
      (sym (append_assoc (take at l) (f (thing past at l) ∷ drop (suc at) (take count l)) (replicate (size - count) none)))
