-- What is refused: a text with its first bad line and the all-zero book, and a save that changes no byte. Assumes nothing.
use Rattle.std.specs.Prelude.{None, Option, Some}
use Prim.Native.Nat.{ℕ, zero, suc, ◌+◌, ◌≤◌}
use Rattle.book.specs.Places.{shelf, zero_book, formed_book}
use Rattle.book.specs.declared.Book.{Book}
use Rattle.book_ledger.specs.Ledger.{Ledger}
use Rattle.saved.specs.Reads.{Read, good, bad, and_then, ended, lined, read_item, unit_read, read_unit}
use Rattle.saved.specs.Saved.{above, nothing, read_order, read_orders, read_head, read_rest, read_book, read_as, read_of, text_of, has_partial, save_of, saved_in}
use Rattle.saved.specs.Saved.{To, Refused}
use Rattle.saved_lines.specs.Items.{Lines, good as good_lines, bad as bad_line, read_from}
use Rattle.saved_lines.specs.Tables.{next_of}
use Rattle.saved_lines.specs.declared.Above.{Above}
use Rattle.saved_lines.specs.declared.Table.{Table}
use Rattle.saved_lines.specs.declared.Table.TheVariants.{Form, Head as HeadTable, Order as OrderTable}
use Rattle.text.specs.Puts.{buffer_of}
use Rattle.text_keyline.specs.Keylines.{below, unit_at}
use borrow.Author.Tests.{ltb-true, lt-leb}
use lib.Dec.{eqb, leb, ltb}
use lib.ListN.{length, take, drop}
use mathlib.Core.Bool.{Bool, true, false, not, ◌&&◌, cond}
use mathlib.Core.List.{List, [], ◌++◌}
use mathlib.Core.Path.{◌≡◌, refl, sym, ◌∙◌}
use native.Mathlib.Omega.{arith}

-- ---- no line is told above the one where the reading began

-- what is read from line n on is told at n or below
abbrev pub From : {A : Type 0} → ℕ → Read A → Type 0
From n (good a m s) = n ≤ m
From n (bad m) = n ≤ m

pub from_then : {A B : Type 0} (n : ℕ) (x : Read A) (f : A → ℕ → List ℕ → Read B) → From n x
    → ((a : A) (m : ℕ) (s : List ℕ) → n ≤ m → From n (f a m s)) → From n (and_then x f)
from_then n (bad m) f h g = h
from_then n (good a m s) f h g = g a m s h

pub from_lower : {A : Type 0} (n m : ℕ) (x : Read A) → n ≤ m → From m x → From n x
from_lower n m (bad k) h f = omega (arith, h, f)
from_lower n m (good a k s) h f = omega (arith, h, f)

pub item_from : (t : Table) (a : Above) (n : ℕ) (s : List ℕ) → From n (read_item t a n s)
unfolding read_item
item_from t a n s = by_lines (read_from (next_of t a) 18 [] s)
  where
    by_lines : (l : Lines) → From n (lined n l)
    by_lines (good_lines vs rest) = omega arith
    by_lines (bad_line k) = omega arith

pub unit_from : (n : ℕ) (s : List ℕ) → From n (read_unit n s)
unfolding read_unit
unit_from n s = by_unit (unit_at s)
  where
    by_unit : (o : Option (List ℕ)) → From n (unit_read o n (below s))
    by_unit None = omega arith
    by_unit (Some u) = omega arith

pub order_from : (floor least n : ℕ) (s : List ℕ) → From n (read_order floor least n s)
unfolding read_order
order_from floor least n s =
    from_then n (read_item OrderTable (above least (suc floor)) n s) _ (item_from OrderTable (above least (suc floor)) n s) (λ vs m rest h. h)

pub orders_from : (floor k least n : ℕ) (s : List ℕ) → From n (read_orders floor k least n s)
unfolding read_orders
orders_from floor zero least n s = omega arith
orders_from floor (suc k) least n s =
    from_then n (read_order floor least n s) _ (order_from floor least n s)
    (λ o m rest h. from_then n (read_orders floor k (suc o.number) m rest) _
    (from_lower n m (read_orders floor k (suc o.number) m rest) h (orders_from floor k (suc o.number) m rest)) (λ os l r j. j))

pub end_from : (l : Ledger) (n m : ℕ) (s : List ℕ) → n ≤ m → From n (ended l m s)
end_from l n m s h = by_end (eqb (length s) 0)
  where
    by_end : (b : Bool) → From n (cond b (good l m []) (bad m))
    by_end true = h
    by_end false = h

book_from : (s : List ℕ) → From 1 (read_book s)
unfolding read_book read_head read_rest
book_from s =
    from_then 1 (read_head s) read_rest
    (from_then 1 (read_item Form nothing 1 s) _ (item_from Form nothing 1 s)
    (λ f n t h. from_then 1 (read_unit n t) _ (from_lower 1 n (read_unit n t) h (unit_from n t))
    (λ u m r i. from_then 1 (read_item HeadTable nothing m r) _ (from_lower 1 m (read_item HeadTable nothing m r) i (item_from HeadTable nothing m r))
    (λ v l q j. j))))
    (λ top n t h. from_then 1 (read_orders top.floor top.count 0 n t) _
    (from_lower 1 n (read_orders top.floor top.count 0 n t) h (orders_from top.floor top.count 0 n t))
    (λ os m rest i. end_from (record { unit = top.unit; floor = top.floor; orders = os }) 1 m rest i))

-- THE THEOREM: 50 with the first bad line, and the all-zero book
pub refused : (s : List ℕ) → ((read_of s).number ≡ 0 → ⊥) → ((read_of s).number ≡ 50) × (1 ≤ (read_of s).detail) × ((read_of s).book ≡ zero_book)
unfolding read_of
refused s n = by_read (read_book s) (book_from s) n
  where
    by_read : (r : Read Ledger) → From 1 r → ((read_as r).number ≡ 0 → ⊥) → ((read_as r).number ≡ 50) × (1 ≤ (read_as r).detail) × ((read_as r).book ≡ zero_book)
    by_read (good l m rest) f n = absurd (n refl)
    by_read (bad m) f n = (refl, f, refl)

-- THE THEOREM: a refused save changes no byte
no_byte : (size room n d : ℕ) (written out : List ℕ) (f partial fits small : Bool) → leb (0 + size) room ≡ fits → ltb room size ≡ small
    → cond (not f) (Refused 20 0) (cond partial (Refused 52 0) (cond small (Refused 11 size) (To size))) ≡ Refused n d
    → cond (f && not partial) (cond fits written out) out ≡ out
no_byte size room n d written out false partial fits small i j e = refl
no_byte size room n d written out true true fits small i j e = refl
no_byte size room n d written out true false false small i j e = refl
no_byte size room n d written out true false true true i j e =
    let z : true ≡ false = sym i ∙ lt-leb (0 + size) room (omega (arith, ltb-true room size j)) in
    let w : ◌≡◌ {A = ℕ} 0 1 = cc in
    absurd (omega arith)
no_byte size room n d written out true false true false i j e = let w : ◌≡◌ {A = ℕ} 0 1 = cc in absurd (omega arith)

pub refused_save : (b : Book) (out : List ℕ) (n d : ℕ) → save_of b (length out) ≡ Refused n d → saved_in b out ≡ out
unfolding save_of saved_in buffer_of
refused_save b out n d e =
    let t = text_of (shelf b) in
    no_byte (length t) (length out) n d (take 0 out ++ t ++ drop (0 + length t) out) out (formed_book b) (has_partial b) (leb (0 + length t) (length out))
    (ltb (length out) (length t)) refl refl e
