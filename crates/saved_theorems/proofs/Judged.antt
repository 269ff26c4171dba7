-- A text's first bad line is decided by the lines down to it. Assumes nothing.
use Rattle.std.specs.Prelude.{None, Option, Some}
use Prim.Native.Nat.{ℕ, zero, suc, ◌+◌, ◌-◌, ◌≤◌, ◌<◌}
use Rattle.book_ledger.specs.Ledger.{Ledger}
use Rattle.saved.specs.Orders.{order_from}
use Rattle.saved.specs.Reads.{Read, good, bad, and_then, ended, lined, read_item, unit_read, read_unit}
use Rattle.saved.specs.Saved.{above, nothing, read_order, read_orders, read_head, read_rest, read_book, read_as, read_of}
use Rattle.saved_lines.proofs.OneLine.{key_clean}
use Rattle.saved_lines.specs.Items.{Lines, good as good_lines, bad as bad_line, if_met, read_from}
use Rattle.saved_lines.specs.Tables.{next_of}
use Rattle.saved_lines.specs.Values.{key_text, line_value, met_in, met_of}
use Rattle.saved_lines.specs.declared.Above.{Above}
use Rattle.saved_lines.specs.declared.Key.{Key}
use Rattle.saved_lines.specs.declared.Met.{Met}
use Rattle.saved_lines.specs.declared.Met.TheVariants.{Says, Wrong, Over}
use Rattle.saved_lines.specs.Values.{Next, Line, Done}
use Rattle.saved_lines.specs.declared.Sort.{Sort}
use Rattle.saved_lines.specs.declared.Table.{Table}
use Rattle.saved_lines.specs.declared.Table.TheVariants.{Form, Head as HeadTable, Order as OrderTable}
use Rattle.saved_theorems.proofs.Refused.{From, from_then, from_lower, item_from, unit_from, orders_from, end_from}
use Rattle.saved_theorems.specs.Restart.{Agree}
use Rattle.text.proofs.Tests.{by_test, by_le, or_parts}
use Rattle.text.specs.Bytes.{bytes, is, any, upto, starts}
use Rattle.text_keyline.specs.Keylines.{line_of, below, unit_at}
use borrow.Author.Tests.{eqb-true, ne_eqb}
use lib.Dec.{eqb}
use lib.ListN.{length, length-append}
use mathlib.Core.Bool.{Bool, true, false, cond, false≢true}
use mathlib.Core.List.{List, [], ◌∷◌, ◌++◌}
use mathlib.Core.Path.{◌≡◌, refl, sym, ap, ◌∙◌}
use native.Mathlib.Omega.{arith}

-- ---- one line

-- whether a text begins with a key is seen in its first line
starts_upto : (key s : List ℕ) → any (is 10) key ≡ false → starts key s ≡ starts key (upto (is 10) s)
unfolding any upto starts
starts_upto [] s c = refl
starts_upto (k ∷ key) [] c = refl
starts_upto (k ∷ key) (b ∷ s) c =
    let p = or_parts (eqb k 10) (any (is 10) key) c in
    by_test (eqb b 10)
    (λ e. let z = eqb-true b 10 e in rw (e, z, p.0))
    (λ e. rw (e, starts_upto key s p.1))

module _ (s t : List ℕ) (ends : any (is 10) s ≡ any (is 10) t) (lines : upto (is 10) s ≡ upto (is 10) t) where
  line_alike : (key : List ℕ) → any (is 10) key ≡ false → line_of key s ≡ line_of key t
  unfolding line_of
  line_alike key c =
      let begins : starts key s ≡ starts key t = starts_upto key s c ∙ ap (starts key) lines ∙ sym (starts_upto key t c) in
      rw (begins, ends, lines)

  value_alike : (k : Key) (x : Sort) (lo hi : ℕ) → line_value k x lo hi s ≡ line_value k x lo hi t
  unfolding line_value
  value_alike k x lo hi = rw (line_alike (key_text k) (key_clean k), lines)

  in_alike : (d : Option ℕ) → met_in d s ≡ met_in d t
  in_alike (Some v) = ap (λ (l : List ℕ). Says v (length l)) lines
  in_alike None = refl

  met_alike : (x : Next) → met_of x s ≡ met_of x t
  met_alike Done = refl
  met_alike (Line k x lo hi) = ap (λ (d : Option ℕ). met_in d s) (value_alike k x lo hi) ∙ in_alike (line_value k x lo hi t)

  unit_alike : unit_at s ≡ unit_at t
  unfolding unit_at any
  unit_alike = rw (line_alike (bytes "unit=") refl, lines)

agree_self : (n : ℕ) (s : List ℕ) → Agree n s s
agree_self zero s = tt
agree_self (suc n) s = (refl, refl, agree_self n (below s))

-- ---- what is read of two texts whose lines above line m are alike: a bad line above m is told of both; and where the reading of one ends above m, so
-- does that of the other, with the same said and the texts from there on alike down to m

abbrev Alike : {A : Type 0} → ℕ → Read A → Read A → Type 0
Alike m (bad k) y = k < m → y ≡ bad k
Alike m (good a k s) y = k < m → (t : List ℕ) × (y ≡ good a k t) × Agree (m - k) s t

-- nothing is claimed of what is told at m or below
past_alike : {A : Type 0} (m j : ℕ) (x y : Read A) → m ≤ j → From j x → Alike m x y
past_alike m j (bad k) y h f = λ z. absurd (omega (arith, h, f, z))
past_alike m j (good a k s) y h f = λ z. absurd (omega (arith, h, f, z))

-- so it is enough to show it where the reading begins above m
from_alike : {A : Type 0} (m k : ℕ) (x y : Read A) → From k x → (k < m → Alike m x y) → Alike m x y
from_alike m k x y f h = by_le m k (λ e. past_alike m k x y e f) h

then_alike : {A B : Type 0} (m : ℕ) (x y : Read A) (f : A → ℕ → List ℕ → Read B) → Alike m x y
    → ((a : A) (k : ℕ) (s : List ℕ) → From k (f a k s))
    → ((a : A) (k : ℕ) (s t : List ℕ) → k < m → Agree (m - k) s t → Alike m (f a k s) (f a k t)) → Alike m (and_then x f) (and_then y f)
then_alike m (bad k) y f h low g = λ z. rw (h z)
then_alike m (good a k s) y f h low g =
    from_alike m k (f a k s) (and_then y f) (low a k s) (λ z. let q = h z in rw q.1 (g a k s q.0 z q.2))

-- ---- an item

module _ (next : List ℕ → Next) where
  met_from : (n : ℕ) (vs s : List ℕ) (x : Met) (then : ℕ → Lines) → ((v : ℕ) → From (n + length vs) (lined n (then v)))
      → From (n + length vs) (lined n (if_met x (good_lines vs s) (bad_line (length vs)) then))
  met_from n vs s Over then f = omega arith
  met_from n vs s Wrong then f = omega arith
  met_from n vs s (Says v i) then f = f v

  lines_from : (fuel n : ℕ) (vs s : List ℕ) → From (n + length vs) (lined n (read_from next fuel vs s))
  unfolding read_from
  lines_from zero n vs s = omega arith
  lines_from (suc fuel) n vs s =
      met_from n vs s (met_of (next vs) s) (λ v. read_from next fuel (vs ++ (v ∷ [])) (below s))
      (λ v. from_lower (n + length vs) (n + length (vs ++ (v ∷ []))) (lined n (read_from next fuel (vs ++ (v ∷ [])) (below s)))
      (omega (arith, length-append vs (v ∷ []))) (lines_from fuel n (vs ++ (v ∷ [])) (below s)))

  met_lines : (n m : ℕ) (vs s t : List ℕ) (x : Met) (f g : ℕ → Lines) → Agree (m - (n + length vs)) s t
      → ((v : ℕ) → Alike m (lined n (f v)) (lined n (g v)))
      → Alike m (lined n (if_met x (good_lines vs s) (bad_line (length vs)) f)) (lined n (if_met x (good_lines vs t) (bad_line (length vs)) g))
  met_lines n m vs s t Over f g a h = λ z. (t, refl, a)
  met_lines n m vs s t Wrong f g a h = λ z. refl
  met_lines n m vs s t (Says v i) f g a h = h v

  lines_alike : (fuel n m : ℕ) (vs s t : List ℕ) → Agree (m - (n + length vs)) s t
      → Alike m (lined n (read_from next fuel vs s)) (lined n (read_from next fuel vs t))
  unfolding read_from
  lines_alike zero n m vs s t a = λ z. refl
  lines_alike (suc fuel) n m vs s t a =
      from_alike m (n + length vs) (lined n (read_from next (suc fuel) vs s)) (lined n (read_from next (suc fuel) vs t)) (lines_from (suc fuel) n vs s)
      (λ z.
      let d : ℕ = m - (n + length vs) - 1 in
      let e : m - (n + length vs) ≡ suc d = omega (arith, z) in
      let one : Agree (suc d) s t = rw e at a in
      let met = met_alike s t one.0 one.1 (next vs) in
      rw met
      (met_lines n m vs s t (met_of (next vs) t) (λ v. read_from next fuel (vs ++ (v ∷ [])) (below s)) (λ v. read_from next fuel (vs ++ (v ∷ [])) (below t)) a
      (λ v.
      let k : d ≡ m - (n + length (vs ++ (v ∷ []))) = omega (arith, length-append vs (v ∷ [])) in
      lines_alike fuel n m (vs ++ (v ∷ [])) (below s) (below t) (rw k at one.2))))

item_alike : (t : Table) (a : Above) (n m : ℕ) (s u : List ℕ) → Agree (m - n) s u → Alike m (read_item t a n s) (read_item t a n u)
unfolding read_item
item_alike t a n m s u g =
    let e : m - n ≡ m - (n + 0) = omega arith in
    lines_alike (next_of t a) 18 n m [] s u (rw e at g)

-- ---- the unit's line

unit_lines : (o : Option (List ℕ)) (n m : ℕ) (s t : List ℕ) → Agree (m - suc n) s t → Alike m (unit_read o n s) (unit_read o n t)
unit_lines None n m s t g = λ z. refl
unit_lines (Some u) n m s t g = λ z. (t, refl, g)

named_alike : (n m : ℕ) (s t : List ℕ) → n < m → Agree (m - n) s t → Alike m (read_unit n s) (read_unit n t)
unfolding read_unit
named_alike n m s t h g =
    let e : m - n ≡ suc (m - suc n) = omega (arith, h) in
    let one : Agree (suc (m - suc n)) s t = rw e at g in
    rw (unit_alike s t one.0 one.1) (unit_lines (unit_at t) n m (below s) (below t) one.2)

-- ---- orders, and the end

order_alike : (floor least n m : ℕ) (s t : List ℕ) → Agree (m - n) s t → Alike m (read_order floor least n s) (read_order floor least n t)
unfolding read_order
order_alike floor least n m s t g =
    then_alike m (read_item OrderTable (above least (suc floor)) n s) (read_item OrderTable (above least (suc floor)) n t)
    (λ vs k rest. good (order_from vs) k rest)
    (item_alike OrderTable (above least (suc floor)) n m s t g) (λ vs k r. omega arith) (λ vs k r q z a. λ y. (q, refl, a))

orders_alike : (floor c least n m : ℕ) (s t : List ℕ) → Agree (m - n) s t → Alike m (read_orders floor c least n s) (read_orders floor c least n t)
unfolding read_orders
orders_alike floor zero least n m s t g = λ z. (t, refl, g)
orders_alike floor (suc c) least n m s t g =
    then_alike m (read_order floor least n s) (read_order floor least n t)
    (λ o k rest. and_then (read_orders floor c (suc o.number) k rest) (λ os l r. good (o ∷ os) l r))
    (order_alike floor least n m s t g)
    (λ o k r. from_then k (read_orders floor c (suc o.number) k r) _ (orders_from floor c (suc o.number) k r) (λ os l q j. j))
    (λ o k r q z a.
    then_alike m (read_orders floor c (suc o.number) k r) (read_orders floor c (suc o.number) k q) (λ os l x. good (o ∷ os) l x)
    (orders_alike floor c (suc o.number) k m r q a) (λ os l x. omega arith) (λ os l x y w b. λ v. (y, refl, b)))

-- a text that is not over is seen in its first line
none_left : (s t : List ℕ) → any (is 10) s ≡ any (is 10) t → upto (is 10) s ≡ upto (is 10) t → eqb (length s) 0 ≡ eqb (length t) 0
unfolding any upto
none_left [] [] e l = refl
none_left [] (b ∷ t) e l =
    by_test (eqb b 10) (λ y. absurd (false≢true (e ∙ rw y))) (λ n. let z : 0 ≡ suc (length (upto (is 10) t)) = ap length l ∙ rw n in absurd (omega (arith, z)))
none_left (b ∷ s) [] e l =
    by_test (eqb b 10) (λ y. absurd (false≢true (sym e ∙ rw y)))
    (λ n. let z : suc (length (upto (is 10) s)) ≡ 0 = sym (rw n) ∙ ap length l in absurd (omega (arith, z)))
none_left (b ∷ s) (c ∷ t) e l = rw (ne_eqb (suc (length s)) 0 (λ z. omega (arith, z)), ne_eqb (suc (length t)) 0 (λ z. omega (arith, z)))

end_lines : (l : Ledger) (x : Bool) (n m : ℕ) → Alike m (cond x (good l n []) (bad n)) (cond x (good l n []) (bad n))
end_lines l true n m = λ z. ([], refl, agree_self (m - n) [])
end_lines l false n m = λ z. refl

end_alike : (l : Ledger) (n m : ℕ) (s t : List ℕ) → n < m → Agree (m - n) s t → Alike m (ended l n s) (ended l n t)
end_alike l n m s t h g =
    let e : m - n ≡ suc (m - suc n) = omega (arith, h) in
    let one : Agree (suc (m - suc n)) s t = rw e at g in
    rw (none_left s t one.0 one.1) (end_lines l (eqb (length t) 0) n m)

-- ---- the book

book_alike : (m : ℕ) (s t : List ℕ) → Agree (m - 1) s t → Alike m (read_book s) (read_book t)
unfolding read_book read_head read_rest
book_alike m s t g =
    then_alike m (read_head s) (read_head t) read_rest
    (then_alike m (read_item Form nothing 1 s) (read_item Form nothing 1 t) _ (item_alike Form nothing 1 m s t g)
    (λ f n r. from_then n (read_unit n r) _ (unit_from n r) (λ u k q j. from_then n (read_item HeadTable nothing k q) _ (from_lower n k
    (read_item HeadTable nothing k q) j (item_from HeadTable nothing k q)) (λ h l x i. i)))
    (λ f n r q z a. then_alike m (read_unit n r) (read_unit n q) _ (named_alike n m r q z a)
    (λ u k x. from_then k (read_item HeadTable nothing k x) _ (item_from HeadTable nothing k x) (λ h l y i. i))
    (λ u k x y w b. then_alike m (read_item HeadTable nothing k x) (read_item HeadTable nothing k y) _ (item_alike HeadTable nothing k m x y b)
    (λ h l v. omega arith) (λ h l v p o c. λ i. (p, refl, c)))))
    (λ top n r. from_then n (read_orders top.floor top.count 0 n r) _ (orders_from top.floor top.count 0 n r)
    (λ os k q j. end_from (record { unit = top.unit; floor = top.floor; orders = os }) n k q j))
    (λ top n r q z a. then_alike m (read_orders top.floor top.count 0 n r) (read_orders top.floor top.count 0 n q) _
    (orders_alike top.floor top.count 0 n m r q a)
    (λ os k x. end_from (record { unit = top.unit; floor = top.floor; orders = os }) k k x (omega arith))
    (λ os k x y w b. end_alike (record { unit = top.unit; floor = top.floor; orders = os }) k m x y w b))

-- the first bad line is bad by the lines down to it
decided_above : (s t : List ℕ) (n : ℕ) → read_book s ≡ bad n → Agree n s t → read_book t ≡ bad n
decided_above s t n e g =
    let h : suc n - 1 ≡ n = omega arith in
    let a : Alike (suc n) (bad n) (read_book t) = rw e at (book_alike (suc n) s t (rw h g)) in
    a (omega arith)

-- THE THEOREM: a text that is alike down to that line is refused at the same line
pub judged_above : (s t : List ℕ) → ((read_of s).number ≡ 0 → ⊥) → Agree (read_of s).detail s t → read_of t ≡ read_of s
unfolding read_of
judged_above s t n g = by_read (read_book s) refl n g
  where
    by_read : (r : Read Ledger) → read_book s ≡ r → ((read_as r).number ≡ 0 → ⊥) → Agree (read_as r).detail s t → read_as (read_book t) ≡ read_as r
    by_read (good l k rest) i n g = absurd (n refl)
    by_read (bad k) i n g = ap read_as (decided_above s t k i g)
