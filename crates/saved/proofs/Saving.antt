-- What saving a book answers and leaves: malformed, struck in part, no room, or the text where the buffer begins. Assumes nothing.
use Prim.Native.Nat.{ℕ, ◌+◌, ◌≤◌, ◌<◌}
use Rattle.book.proofs.Holding.{Holding}
use Rattle.book.specs.Places.{shelf, formed_book}
use Rattle.book.specs.declared.Book.{Book}
use Rattle.book_order.specs.Orders.{is_partial}
use Rattle.saved.specs.Saved.{text_of, has_partial, save_of, saved_in}
use Rattle.saved.specs.Saved.{To, Refused}
use Rattle.text.proofs.Runs.{none_put, refused_write}
use Rattle.text.specs.Bytes.{any}
use Rattle.text.specs.Puts.{Puts, buffer_of}
use borrow.Author.Tests.{lt-ltb, le-ltb, le-leb}
use lib.ListN.{length, take}
use lib.Seq.{sets, sets-eq}
use mathlib.Core.Bool.{Bool, true, false}
use mathlib.Core.List.{List, [], ◌++◌}
use mathlib.Core.Path.{◌≡◌, refl, sym, ap, ◌∙◌}
use native.Mathlib.Omega.{arith}

-- whether one of the orders that a book holds is struck in part
pub partial_held : (b : Book) (count : ℕ) → Holding b count → (t u : Bool) → t ≡ any is_partial (take count b.orders) → t ≡ u → has_partial b ≡ u
partial_held b count h t u told is = ap (any is_partial) h.held ∙ sym told ∙ is

-- ---- the answers

module _ (b : Book) (l : List ℕ) where
  pub save_malformed : formed_book b ≡ false → (Refused 20 0 ≡ save_of b (length l)) × (l ≡ saved_in b l)
  unfolding save_of saved_in
  save_malformed e = rw e (refl, refl)

  pub save_partial : formed_book b ≡ true → has_partial b ≡ true → (Refused 52 0 ≡ save_of b (length l)) × (l ≡ saved_in b l)
  unfolding save_of saved_in
  save_partial e p = rw (e, p) (refl, refl)

  abbrev text : List ℕ
  text = text_of (shelf b)

  -- the length is found on an empty part, which comes back as m
  module _ (formed : formed_book b ≡ true) (whole : has_partial b ≡ false) (n : ℕ) (m : List ℕ) (first : Puts [] 0 text n m) where
    same : m ++ l ≡ l
    same = rw (first.1, none_put 0 text)

    long : n ≡ length text
    long = omega (arith, first.0)

    pub save_full : length (m ++ l) < n → (Refused 11 n ≡ save_of b (length l)) × (m ++ l ≡ saved_in b l)
    unfolding save_of saved_in
    save_full h =
        let g : length l < length text = omega (arith, h, long, ap length same) in
        (rw (formed, whole, long, lt-ltb (length l) (length text) g), rw (formed, whole) (refused_write l m text 0 n first (omega (arith, h))).1)

    pub save_done : n ≤ length (m ++ l) → (r : ℕ) (after : List ℕ) → Puts (m ++ l) 0 text r after
        → (To n ≡ save_of b (length l)) × (after ≡ saved_in b l)
    unfolding save_of saved_in buffer_of
    save_done h r after second =
        let g : length text ≤ length l = omega (arith, h, long, ap length same) in
        let z : 0 + length text ≤ length l = omega (arith, g) in
        let put : after ≡ sets l 0 text = second.1 ∙ ap (λ (x : List ℕ). sets x 0 text) same in
        (rw (formed, whole, long, le-ltb (length l) (length text) g), rw (formed, whole, le-leb (0 + length text) (length l) z) (put ∙ sets-eq text l 0 z))
