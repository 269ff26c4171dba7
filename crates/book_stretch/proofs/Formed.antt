-- Well formed stretches: that they stay so where one is joined, when one lies in them, and which are all the time or nothing. Assumes nothing.
use Prim.Native.Nat.{ℕ, zero, suc, ◌-◌, ◌≤◌, ◌<◌}
use Rattle.book_lists.proofs.Keeping.{any_keep}
use Rattle.book_shelf.proofs.Packing.{all_rest}
use Rattle.book_shelf.specs.Shelf.{packed}
use Rattle.book_stretch.proofs.Joins.{covers_tells, used_covers, four_length, none_one, none_is}
use Rattle.book_stretch.specs.Stretches.{covers, lies, no_stretch, is_none, is_used, in_four, used_in, are_none, fits_in, apart_from, formed_in, hull, joined}
use Rattle.book_stretch.specs.declared.Stretch.{Stretch}
use Rattle.text.proofs.Cuts.{all_none}
use Rattle.text.proofs.Tests.{by_test, by_le, and_parts, or_parts, or_right, Tells, leb_tells, ltb_tells, eqb_tells, ◌and◌, untold}
use Rattle.text.specs.Bytes.{any, all}
use borrow.Author.Tests.{ltb-true, lt-ltb, eqb-true}
use lib.Dec.{eqb, ltb}
use lib.ListN.{length, replicate}
use mathlib.Core.Bool.{true, false, false≢true}
use mathlib.Core.List.{List, [], ◌∷◌, ◌++◌}
use mathlib.Core.Logic.{◌↔◌}
use mathlib.Core.Path.{◌≡◌, refl, sym, ap, ◌∙◌}
use native.Mathlib.Omega.{arith}

lies_tells : (s c : Stretch) → Tells (lies s c) ((c.from ≤ s.from) × (s.to ≤ c.to))
lies_tells s c = leb_tells c.from s.from and leb_tells s.to c.to

-- ---- used ones, apart

abbrev pub Fits : ℕ → ℕ → Stretch → Type 0
Fits lo hi c = (lo ≤ c.from) × ((c.from < c.to) × (c.to ≤ hi))

fits_tells : (lo hi : ℕ) (c : Stretch) → Tells (fits_in lo hi c) (Fits lo hi c)
fits_tells lo hi c = leb_tells lo c.from and (ltb_tells c.from c.to and leb_tells c.to hi)

-- each fits past the one before it
abbrev Apart : ℕ → ℕ → List Stretch → Type 0
Apart lo hi [] = Unit {0}
Apart lo hi (c ∷ l) = Fits lo hi c × Apart (suc c.to) hi l

-- the first of well formed ones: none, and so the rest; or one that fits
pub by_first : {A : Type 0} (lo hi : ℕ) (c : Stretch) (l : List Stretch) → apart_from lo hi (c ∷ l) ≡ true
    → (all is_none (c ∷ l) ≡ true → A) → (Fits lo hi c → apart_from (suc c.to) hi l ≡ true → A) → A
unfolding apart_from all
by_first lo hi c l e p q =
    by_test (is_none c)
    (λ n. p (rw n (rw n at e)))
    (λ n. let r = and_parts (fits_in lo hi c) _ (rw n at e) in q ((fits_tells lo hi c).0 r.0) r.1)

unused : (l : List Stretch) → any is_used l ≡ false → used_in l ≡ []
unfolding any
unused [] e = refl
unused (c ∷ l) e = let p = or_parts (is_used c) _ e in rw p.0 (unused l p.1)

none_used : (l : List Stretch) → all is_none l ≡ true → used_in l ≡ []
none_used l e = unused l (all_none is_used is_none (λ c n. rw (none_one c n)) l e)

used_apart : (lo hi : ℕ) (l : List Stretch) → apart_from lo hi l ≡ true → Apart lo hi (used_in l)
used_apart lo hi [] e = tt
used_apart lo hi (c ∷ l) e =
    by_first lo hi c l e
    (λ n. rw (none_used (c ∷ l) n) tt)
    (λ f r. rw (lt-ltb 0 c.to (omega arith)) (f, used_apart (suc c.to) hi l r))

used_packed : (lo hi : ℕ) (l : List Stretch) → apart_from lo hi l ≡ true → l ≡ packed no_stretch (length l) (used_in l)
used_packed lo hi [] e = refl
used_packed lo hi (c ∷ l) e =
    by_first lo hi c l e
    (λ n. rw (none_used (c ∷ l) n) (all_rest is_none no_stretch none_one 0 (length (c ∷ l)) (c ∷ l) refl n))
    (λ f r.
    let s : suc (length l) - suc (length (used_in l)) ≡ length l - length (used_in l) = omega arith in
    rw (lt-ltb 0 c.to (omega arith), s) (ap (λ (m : List Stretch). c ∷ m) (used_packed (suc c.to) hi l r)))

-- ---- used ones that are apart, in four places

nones : (n : ℕ) → all is_none (replicate n no_stretch) ≡ true
unfolding all
nones zero = refl
nones (suc n) = nones n

apart_padded : (lo hi n : ℕ) (l : List Stretch) → Apart lo hi l → apart_from lo hi (l ++ replicate n no_stretch) ≡ true
unfolding apart_from
apart_padded lo hi zero [] a = refl
apart_padded lo hi (suc n) [] a = nones n
apart_padded lo hi n (c ∷ l) a =
    let some : is_none c ≡ false = untold (eqb_tells c.from 0 and eqb_tells c.to 0) (λ h. omega arith) in
    rw (some, (fits_tells lo hi c).1 a.0) (apart_padded (suc c.to) hi n l a.1)

apart_formed : (time : Stretch) (l : List Stretch) → length l ≤ 4 → Apart time.from time.to l → formed_in time (in_four l) ≡ true
unfolding formed_in
apart_formed time l h a = rw (four_length l h) (apart_padded time.from time.to (4 - length l) l a)

formed_apart : (time : Stretch) (l : List Stretch) → formed_in time l ≡ true → (l ≡ in_four (used_in l)) × Apart time.from time.to (used_in l)
unfolding formed_in
formed_apart time l e =
    let p = and_parts (eqb (length l) 4) _ e in
    (rw (eqb-true (length l) 4 p.0) at (used_packed time.from time.to l p.1), used_apart time.from time.to l p.1)

pub none_formed : (time : Stretch) (l : List Stretch) → are_none l ≡ true → formed_in time l ≡ true
none_formed time l e = rw (none_is l e) (apart_formed time [] (omega arith) tt)

pub one_formed : (time : Stretch) → time.from < time.to → formed_in time (in_four (time ∷ [])) ≡ true
one_formed time h = apart_formed time (time ∷ []) (omega arith) (omega arith, tt)

-- ---- joining

lower : (lo to hi : ℕ) (l : List Stretch) → to ≤ lo → Apart lo hi l → Apart to hi l
lower lo to hi [] h a = tt
lower lo to hi (c ∷ l) h a = (omega arith, a.1)

joined_apart : (lo hi : ℕ) (s : Stretch) (l : List Stretch) → Fits lo hi s → Apart lo hi l → Apart lo hi (joined s l)
unfolding joined
joined_apart lo hi s [] f a = (f, tt)
joined_apart lo hi s (c ∷ l) f a =
    by_test (ltb c.to s.from)
    (λ p. rw p (a.0, joined_apart (suc c.to) hi s l (ltb-true c.to s.from p, f.1) a.1))
    (λ p. by_test (ltb s.to c.from)
    (λ q. rw (p, q) (f, ((ltb-true s.to c.from q, a.0.1), a.1)))
    (λ q. rw (p, q) (joined_apart lo hi (hull s c) l (omega arith) (lower (suc c.to) lo hi l (omega arith) a.1))))

pub joined_formed : (time s : Stretch) (l : List Stretch) → formed_in time l ≡ true → s.from < s.to → lies s time ≡ true
    → length (joined s (used_in l)) ≤ 4 → formed_in time (in_four (joined s (used_in l))) ≡ true
joined_formed time s l e h i n =
    let f : Fits time.from time.to s = omega (arith, (lies_tells s time).0 i) in
    apart_formed time (joined s (used_in l)) n (joined_apart time.from time.to s (used_in l) f (formed_apart time l e).1)

-- ---- lying

pub whole_covers : (time s : Stretch) (t : ℕ) → s.from ≤ time.from → time.to ≤ s.to → covers t time ≡ true → covers t s ≡ true
whole_covers time s t h k e = (covers_tells t s).1 (omega (arith, (covers_tells t time).0 e))

lies_covers : (s : Stretch) (t : ℕ) (l : List Stretch) → any (lies s) l ≡ true → covers t s ≡ true → any (covers t) l ≡ true
unfolding any
lies_covers s t [] e h = e
lies_covers s t (c ∷ l) e h =
    by_test (lies s c)
    (λ y. let p = (lies_tells s c).0 y in rw (whole_covers s c t p.0 p.1 h))
    (λ n. or_right (covers t c) _ (lies_covers s t l (rw n at e) h))

-- one that the first has not
others : (t : ℕ) (c : Stretch) (l : List Stretch) → ((c.from ≤ t) × (t < c.to) → ⊥) → any (covers t) (c ∷ l) ≡ true → any (covers t) l ≡ true
unfolding any
others t c l n e = rw (untold (covers_tells t c) n) at e

-- nothing before the first
early : (lo hi t : ℕ) (l : List Stretch) → Apart lo hi l → t < lo → any (covers t) l ≡ true → ⊥
unfolding any
early lo hi t [] a h e = false≢true e
early lo hi t (c ∷ l) a h e = early (suc c.to) hi t l a.1 (omega arith) (others t c l (λ k. omega arith) e)

covered_lies : (lo hi : ℕ) (s : Stretch) (l : List Stretch) → Apart lo hi l → s.from < s.to
    → ((t : ℕ) → covers t s ≡ true → any (covers t) l ≡ true) → any (lies s) l ≡ true
unfolding any
covered_lies lo hi s [] a h k = k s.from ((covers_tells s.from s).1 (omega arith))
covered_lies lo hi s (c ∷ l) a h k =
    let gap : (t : ℕ) → (s.from ≤ t) × (t < s.to) → t ≤ c.to → ((c.from ≤ t) × (t < c.to) → ⊥) → ⊥ =
    λ t i m n. early (suc c.to) hi t l a.1 (omega arith) (others t c l n (k t ((covers_tells t s).1 i))) in
    by_le c.to s.from
    (λ p.
    let rest : (t : ℕ) → covers t s ≡ true → any (covers t) l ≡ true =
    λ t i. others t c l (λ m. omega (arith, (covers_tells t s).0 i)) (k t i) in
    or_right (lies s c) _ (covered_lies (suc c.to) hi s l a.1 h rest))
    (λ p. by_le c.from s.from
    (λ q. by_le s.to c.to
    (λ r. rw ((lies_tells s c).1 (q, r)))
    (λ r. absurd (gap c.to (omega arith) (omega arith) (λ m. omega arith))))
    (λ q. absurd (gap s.from (omega arith) (omega arith) (λ m. omega arith))))

used_lies : (s : Stretch) (l : List Stretch) → s.from < s.to → any (lies s) (used_in l) ≡ any (lies s) l
used_lies s l h = any_keep (lies s) is_used (λ c i. lt-ltb 0 c.to (omega (arith, (lies_tells s c).0 i))) l

pub lies_exactly : (time s : Stretch) (l : List Stretch) → formed_in time l ≡ true → s.from < s.to
    → any (lies s) l ≡ true ↔ ((t : ℕ) → covers t s ≡ true → any (covers t) l ≡ true)
lies_exactly time s l e h = (
  λ i t k. lies_covers s t l i k,
  λ k. sym (used_lies s l h) ∙ covered_lies time.from time.to s (used_in l) (formed_apart time l e).1 h (λ t i. used_covers t l ∙ k t i),
)

-- ---- all the time, or nothing

none_past : (lo hi : ℕ) (l : List Stretch) → Apart lo hi l → hi < lo → l ≡ []
none_past lo hi [] a h = refl
none_past lo hi (c ∷ l) a h = absurd (omega arith)

whole_one : (time : Stretch) (l : List Stretch) → Apart time.from time.to l → time.from < time.to → any (lies time) l ≡ true → l ≡ time ∷ []
unfolding any
whole_one time [] a h e = absurd (false≢true e)
whole_one time (c ∷ l) a h e =
    by_test (lies time c)
    (λ y.
    let p = (lies_tells time c).0 y in
    let from : c.from ≡ time.from = omega arith in
    let to : c.to ≡ time.to = omega arith in
    λ i. record { from = from i; to = to i } ∷ none_past (suc c.to) time.to l a.1 (omega arith) i)
    (λ n.
    let start = lies_covers time time.from l (rw n at e) ((covers_tells time.from time).1 (omega arith)) in
    absurd (early (suc c.to) time.to time.from l a.1 (omega arith) start))

pub whole_is : (time : Stretch) (l : List Stretch) → formed_in time l ≡ true → time.from < time.to → any (lies time) l ≡ true → l ≡ in_four (time ∷ [])
whole_is time l e h i =
    let p = formed_apart time l e in
    p.0 ∙ ap in_four (whole_one time (used_in l) p.1 h (used_lies time l h ∙ i))

pub unused_none : (time : Stretch) (l : List Stretch) → formed_in time l ≡ true → any is_used l ≡ false → are_none l ≡ true
unfolding are_none all
unused_none time l e n = rw ((formed_apart time l e).0, unused l n)
