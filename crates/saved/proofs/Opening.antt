-- The head as it is answered, and the book that is read below it. Assumes nothing.
use Prim.Native.Nat.{ℕ, ◌-◌, ◌≤◌}
use Rattle.saved.proofs.Heading.{headed}
use Rattle.saved.specs.Reads.{Read, good, bad, and_then}
use Rattle.saved.specs.Saved.{Top, read_head, read_rest, read_book, unread_at, read_as, read_of, bad_head, head_of, top_of, read_below}
use Rattle.saved.specs.Saved.{Head}
use Rattle.text.specs.Puts.{room_of}
use Rattle.text_room.specs.Rooms.{kept_in}
use borrow.Author.Tests.{le-leb}
use lib.ListN.{length, take, drop, replicate}
use lib.Seq.{take-append_seam}
use mathlib.Core.Bool.{true, false, false≢true}
use mathlib.Core.List.{List}
use mathlib.Core.Path.{◌≡◌, refl, sym, ap, ◌∙◌}
use native.Mathlib.Omega.{arith}

-- ---- the head

pub bad_answer : (s : List ℕ) (n : ℕ) (r : Head) → read_head s ≡ bad n → r ≡ bad_head n → r ≡ head_of (read_head s) s
bad_answer s n r e f = f ∙ rw e

pub good_answer : (s unit rest room : List ℕ) (floor count size end : ℕ)
    → read_head s ≡ good (record { unit = unit; floor = floor; count = count }) 5 rest
    → size ≡ length unit → room ≡ kept_in 16 unit → end ≡ length s - length rest
    → record { good = true; size = size; unit = room; floor = floor; count = count; line = 5; end = end } ≡ head_of (read_head s) s
good_answer s unit rest room floor count size end e n k p =
    rw e (λ i. record { good = true; size = n i; unit = k i; floor = floor; count = count; line = 5; end = p i })

-- ---- the book below it

-- a unit that is kept in its room is its first bytes
unit_back : (u : List ℕ) → length u ≤ 16 → take (length u) (kept_in 16 u) ≡ u
unfolding kept_in room_of
unit_back u h = rw (le-leb (length u) 16 h) (take-append_seam u (replicate (16 - length u) 0))

-- the head that was answered, with what was read for it
pub record Opened (s : List ℕ) (h : Head) : Type 0 where
  pub top : Top
  pub rest : List ℕ
  pub read : read_head s ≡ good top 5 rest
  pub top_is : top_of h ≡ top
  pub line : h.line ≡ 5
  pub from_there : drop h.end s ≡ rest
  pub asked : (h.end ≤ length s) × (h.count ≤ 96) × (h.line ≤ 5) × (h.size ≤ 16)

pub opened : (s : List ℕ) (h : Head) → h ≡ head_of (read_head s) s → h.good ≡ true → Opened s h
opened s h told sound = by_read (read_head s) refl told
  where
    by_read : (x : Read Top) → read_head s ≡ x → h ≡ head_of x s → Opened s h
    by_read (bad n) i e = absurd (false≢true (sym (ap (λ (x : Head). x.good) e) ∙ sound))
    by_read (good t n rest) i h_is =
        let w = headed s t n rest i in
        let line_is : h.line ≡ n = ap (λ (x : Head). x.line) h_is in
        let end_is : h.end ≡ length s - length rest = ap (λ (x : Head). x.end) h_is in
        record {
          top = t;
          rest = rest;
          read = i ∙ ap (λ (k : ℕ). good t k rest) w.line;
          top_is =
              ap top_of h_is
              ∙ ap (λ (u : List ℕ). record { unit = u; floor = t.floor; count = t.count }) (unit_back t.unit w.fits);
          line = line_is ∙ w.line;
          from_there = ap (λ (k : ℕ). drop k s) end_is ∙ w.from_there;
          asked = (
            omega (arith, end_is),
            omega (arith, ap (λ (x : Head). x.count) h_is, w.few),
            omega (arith, line_is, w.line),
            omega (arith, ap (λ (x : Head). x.size) h_is, w.fits),
          );
        }

-- no head, no book
pub no_book : (s : List ℕ) (h : Head) → h ≡ head_of (read_head s) s → h.good ≡ false → unread_at h.line ≡ read_of s
unfolding read_of read_book
no_book s h told broken = by_read (read_head s) told
  where
    by_read : (x : Read Top) → h ≡ head_of x s → unread_at h.line ≡ read_as (and_then x read_rest)
    by_read (good t n rest) e = absurd (false≢true (sym broken ∙ ap (λ (x : Head). x.good) e))
    by_read (bad n) e = ap (λ (x : Head). unread_at x.line) e

-- the book below a head is the text's
pub book_below : (s : List ℕ) (h : Head) → h ≡ head_of (read_head s) s → h.good ≡ true → read_as (read_below h (drop h.end s)) ≡ read_of s
unfolding read_of read_book
book_below s h told sound =
    let o = opened s h told sound in
    let there : read_as (read_below h (drop h.end s)) ≡ read_as (read_rest o.top 5 o.rest) =
    λ i. read_as (read_rest (o.top_is i) (o.line i) (o.from_there i)) in
    there ∙ sym (ap (λ (x : Read Top). read_as (and_then x read_rest)) o.read)
