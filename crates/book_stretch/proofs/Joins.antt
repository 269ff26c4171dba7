-- What is covered: by a stretch that is joined with others, by four places, and by none. Assumes nothing.
use Prim.Native.Nat.{ℕ, zero, suc, ◌-◌, ◌≤◌, ◌<◌}
use Rattle.book_lists.proofs.Keeping.{any_keep}
use Rattle.book_shelf.proofs.Packing.{all_rest}
use Rattle.book_stretch.specs.Stretches.{covers, no_stretch, is_none, is_used, in_four, used_in, are_none, hull, joined}
use Rattle.book_stretch.specs.declared.Stretch.{Stretch}
use Rattle.text.proofs.Tests.{by_test, by_le, and_parts, Tells, leb_tells, ltb_tells, ◌and◌, same_if, untold}
use Rattle.text.specs.Bytes.{any}
use borrow.Author.Tests.{lt-ltb, ltb-false, eqb-true}
use lib.Dec.{eqb, ltb}
use lib.ListN.{length, take, replicate, length-append, length-replicate}
use lib.Seq.{take_all}
use mathlib.Core.Bool.{true, false, ◌||◌, or_assoc, or_comm}
use mathlib.Core.List.{List, [], ◌∷◌, ◌++◌}
use mathlib.Core.Path.{◌≡◌, refl}
use native.Mathlib.Omega.{arith}

pub covers_tells : (t : ℕ) (c : Stretch) → Tells (covers t c) ((c.from ≤ t) × (t < c.to))
covers_tells t c = leb_tells c.from t and ltb_tells t c.to

-- ---- joining

-- two that meet or touch
hull_covers : (t : ℕ) (s c : Stretch) → s.from ≤ c.to → c.from ≤ s.to → covers t (hull s c) ≡ covers t s || covers t c
hull_covers t s c p q =
    let as_other = same_if (covers_tells t (hull s c)) (covers_tells t c) in
    by_le s.from t
    (λ a. by_le s.to t
    (λ b. rw (untold (covers_tells t s) (λ h. omega arith)) (as_other (λ h. omega arith) (λ h. omega arith)))
    (λ b. rw ((covers_tells t s).1 (a, b)) ((covers_tells t (hull s c)).1 (omega arith))))
    (λ a. rw (untold (covers_tells t s) (λ h. omega arith)) (as_other (λ h. omega arith) (λ h. omega arith)))

-- THE LAW: exactly the instants of the stretch, and those of the others
pub joined_covers : (t : ℕ) (s : Stretch) (l : List Stretch) → any (covers t) (joined s l) ≡ covers t s || any (covers t) l
unfolding joined any
joined_covers t s [] = refl
joined_covers t s (c ∷ l) =
    let rest = any (covers t) l in
    let grouped = or_assoc (covers t s) (covers t c) rest in
    by_test (ltb c.to s.from)
    (λ f. rw (f, joined_covers t s l, ← (or_assoc (covers t c) (covers t s) rest), or_comm (covers t c) (covers t s)) grouped)
    (λ f. by_test (ltb s.to c.from)
    (λ g. rw (f, g))
    (λ g. rw (f, g, joined_covers t (hull s c) l, hull_covers t s c (ltb-false c.to s.from f) (ltb-false s.to c.from g)) grouped))

-- ---- four places

pub used_covers : (t : ℕ) (l : List Stretch) → any (covers t) (used_in l) ≡ any (covers t) l
used_covers t l = any_keep (covers t) is_used (λ c e. lt-ltb 0 c.to (omega (arith, (covers_tells t c).0 e))) l

no_covers : (t : ℕ) → covers t no_stretch ≡ false
no_covers t = untold (covers_tells t no_stretch) (λ h. omega arith)

padded_covers : (t n : ℕ) (l : List Stretch) → any (covers t) (l ++ replicate n no_stretch) ≡ any (covers t) l
unfolding any
padded_covers t zero [] = refl
padded_covers t (suc n) [] = rw no_covers (padded_covers t n [])
padded_covers t n (c ∷ l) = rw (padded_covers t n l)

pub four_covers : (t : ℕ) (l : List Stretch) → any (covers t) (in_four l) ≡ any (covers t) l
four_covers t l = padded_covers t (4 - length l) l

pub struck_covers : (t : ℕ) (s : Stretch) (l : List Stretch) → any (covers t) (in_four (joined s (used_in l))) ≡ covers t s || any (covers t) l
struck_covers t s l = rw (four_covers t (joined s (used_in l)), joined_covers t s (used_in l), used_covers t l)

pub four_length : (l : List Stretch) → length l ≤ 4 → length (in_four l) ≡ 4
four_length l h = rw (length-append, length-replicate) (omega arith)

pub four_whole : (l : List Stretch) → length l ≤ 4 → take 4 (in_four l) ≡ in_four l
four_whole l h = take_all 4 (in_four l) (omega (arith, four_length l h))

-- ---- none

pub none_one : (c : Stretch) → is_none c ≡ true → c ≡ no_stretch
none_one c e =
    let p = and_parts (eqb c.from 0) _ e in
    λ i. record { from = eqb-true c.from 0 p.0 i; to = eqb-true c.to 0 p.1 i }

pub none_is : (l : List Stretch) → are_none l ≡ true → l ≡ in_four []
unfolding are_none
none_is l e =
    let p = and_parts (eqb (length l) 4) _ e in
    all_rest is_none no_stretch none_one 0 4 l (eqb-true (length l) 4 p.0) p.1

pub none_covers : (t : ℕ) (l : List Stretch) → are_none l ≡ true → any (covers t) l ≡ false
unfolding any
none_covers t l e = rw (none_is l e) (four_covers t [])
