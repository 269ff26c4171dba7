-- A book read back is the book that was saved, so a run with restarts is the run without them. Assumes nothing.
use Prim.Native.Nat.{ℕ, suc, ◌+◌, ◌≤◌}
use Rattle.book.proofs.Formed.{shelf_book}
use Rattle.book.specs.Answers.{outcome, call_number, next_of}
use Rattle.book.specs.Places.{book_of, shelf, formed_book}
use Rattle.book.specs.declared.Book.{Book}
use Rattle.book.specs.Answers.{Outcome}
use Rattle.book_ledger.specs.Calls.{Call, command, revoke, close, ask, deed_of, names}
use Rattle.book_ledger.specs.Demand.{wants_place}
use Rattle.book_ledger.specs.Keepers.{Keeper, run, answers}
use Rattle.book_ledger.specs.Ledger.{Ledger, fresh, answer, effect, step}
use Rattle.book_theorems.proofs.Carried.{Carries, carries_step, same_floor}
use Rattle.book_theorems.proofs.Lift.{formed, shelved, sized, formed_fits}
use Rattle.book_theorems.proofs.Theorems.{fresh_carries}
use Rattle.book_theorems.specs.Books.{books, book_for}
use Rattle.saved.specs.Reads.{Read, good, bad}
use Rattle.saved.specs.Saved.{read_book, read_as, read_of, text_of, has_partial, save_of, saved_in}
use Rattle.saved.specs.Saved.{Saved}
use Rattle.saved.specs.Saved.{To, Refused}
use Rattle.saved_theorems.proofs.Exact.{text_read, text_only}
use Rattle.saved_theorems.specs.Restart.{Sized, Turn, call, restart, read_back, turn_next, restarting, calls_of, turn_names, timely}
use Rattle.book_order.specs.Orders.{Name}
use Rattle.text.proofs.Tests.{by_test, and_parts, or_parts}
use Rattle.text.specs.Bytes.{all, any}
use Rattle.text.specs.Puts.{buffer_of}
use Rattle.value_name.specs.Names.{is_unit}
use borrow.Author.Tests.{le-leb, leb-true, ltb-false}
use lib.Dec.{eqb, ltb}
use lib.ListN.{length, take, drop}
use lib.Seq.{take-append_seam, drop-append_seam}
use mathlib.Core.Bool.{Bool, true, false, not, cond}
use mathlib.Core.List.{List, [], ◌∷◌, ◌++◌}
use mathlib.Core.Path.{◌≡◌, refl, sym, ap, ap₂, subst, ◌∙◌}
use native.Mathlib.Omega.{arith}

-- ---- one save

-- a save that was taken: the book is well formed, no order is struck in part, there was room, and the buffer begins with the text
pub record Taken (b : Book) (out : List ℕ) (n : ℕ) : Type 0 where
  pub well : formed_book b ≡ true
  pub not_partial : has_partial b ≡ false
  pub length_is : n ≡ length (text_of (shelf b))
  pub front : take n (saved_in b out) ≡ text_of (shelf b)
  pub rest_stays : drop n (saved_in b out) ≡ drop n out

-- the buffer, where there is room
saved_bytes : (b : Book) (out : List ℕ) → formed_book b ≡ true → has_partial b ≡ false → length (text_of (shelf b)) ≤ length out
    → saved_in b out ≡ text_of (shelf b) ++ drop (length (text_of (shelf b))) out
unfolding saved_in buffer_of
saved_bytes b out i w h =
    let t = text_of (shelf b) in
    let z : 0 + length t ≡ length t = omega arith in
    rw (i, w, le-leb (0 + length t) (length out) (omega (arith, h))) (ap (λ (k : ℕ). t ++ drop k out) z)

by_formed : (b : Book) (out : List ℕ) (n : ℕ) (f : Bool) → formed_book b ≡ f → (partial : Bool) → has_partial b ≡ partial
    → (small : Bool) → ltb (length out) (length (text_of (shelf b))) ≡ small
    → cond (not f) (Refused 20 0) (cond partial (Refused 52 0) (cond small (Refused 11 (length (text_of (shelf b)))) (To (length (text_of (shelf b))))))
    ≡ To n → Taken b out n
by_formed b out n false i partial w small j e = let z : ◌≡◌ {A = ℕ} 0 1 = cc in absurd (omega arith)
by_formed b out n true i true w small j e = let z : ◌≡◌ {A = ℕ} 0 1 = cc in absurd (omega arith)
by_formed b out n true i false w true j e = let z : ◌≡◌ {A = ℕ} 0 1 = cc in absurd (omega arith)
by_formed b out n true i false w false j e =
    let t = text_of (shelf b) in
    let q : n ≡ length t = cc in
    let bytes = saved_bytes b out i w (ltb-false (length out) (length t) j) in
    record {
      well = i;
      not_partial = w;
      length_is = q;
      front = rw (q, bytes) (take-append_seam t (drop (length t) out));
      rest_stays = rw (q, bytes) (drop-append_seam t (drop (length t) out));
    }

pub save_taken : (b : Book) (out : List ℕ) (n : ℕ) → save_of b (length out) ≡ To n → Taken b out n
unfolding save_of
save_taken b out n e = by_formed b out n (formed_book b) refl (has_partial b) refl (ltb (length out) (length (text_of (shelf b)))) refl e

shelf_floor : (b : Book) → b.floor ≤ 4294967295 → (shelf b).floor ≤ 4294967295
unfolding shelf
shelf_floor b h = h

-- THE THEOREM: reading a saved book gives the same book
pub read_back_lem : (b : Book) (out : List ℕ) (n : ℕ) → Sized b → save_of b (length out) ≡ To n → read_of (take n (saved_in b out)) ≡ outcome 0 b
unfolding read_of
read_back_lem b out n z e =
    let t = save_taken b out n e in
    let fits = formed_fits b z.long t.well in
    rw (t.front, text_read (shelf b) fits (shelf_floor b z.floor_fits) t.not_partial)
    (ap (outcome 0) (sym (shelf_book b z.long z.wide t.well)))

-- THE THEOREM: what is read as a book is that book's text
pub one_text : (s : List ℕ) (b : Book) → read_of s ≡ outcome 0 b → (formed_book b ≡ true) × (s ≡ text_of (shelf b))
unfolding read_of
one_text s b e = by_read (read_book s) refl e
  where
    by_read : (r : Read Ledger) → read_book s ≡ r → read_as r ≡ outcome 0 b → (formed_book b ≡ true) × (s ≡ text_of (shelf b))
    by_read (bad n) i e = let z : ◌≡◌ {A = ℕ} 50 0 = ap (λ (o : Outcome). o.number) e in absurd (omega (arith, z))
    by_read (good l m rest) i e =
        let o = text_only s l m rest i in
        let q : book_of l ≡ b = ap (λ (x : Outcome). x.book) e in
        rw (sym q) (formed l o.fits, o.text ∙ ap text_of (sym (shelved l o.fits)))

-- ---- restarts

-- a restart leaves the book as it was
pub restart_same : (b : Book) (out : List ℕ) → Sized b → turn_next (restart out) b ≡ b
restart_same b out z = by_saved (save_of b (length out)) refl
  where
    by_saved : (s : Saved) → save_of b (length out) ≡ s → read_back b out s ≡ b
    by_saved (To n) e = ap (λ (o : Outcome). o.book) (read_back_lem b out n z e)
    by_saved (Refused n d) e = refl

-- a book that calls lead to: it carries a ledger, whose floor has 32 bits
pub record Reached (s : Book) : Type 0 where
  pub ledger : Ledger
  pub carries : Carries s ledger
  pub floor_fits : ledger.floor ≤ 4294967295

reached_sized : (s : Book) → Reached s → Sized s
reached_sized s r =
    let z = sized r.ledger r.carries.fits in
    record {
      wide = ap (λ (b : Book). length b.unit) r.carries.is_book ∙ z.1;
      long = ap (λ (b : Book). length b.orders) r.carries.is_book ∙ z.0;
      floor_fits = omega (arith, same_floor r.carries, r.floor_fits);
    }

effect_floor : (k : Call) (b : Ledger) → timely (call k) ≡ true → b.floor ≤ 4294967295 → (effect (deed_of k) b).floor ≤ 4294967295
effect_floor (command r) b t h = h
effect_floor (revoke r) b t h = h
effect_floor (close n) b t h = leb-true n 4294967295 t
effect_floor (ask n) b t h = h

step_floor : (k : Call) (b : Ledger) → timely (call k) ≡ true → b.floor ≤ 4294967295 → (step k b).floor ≤ 4294967295
step_floor k b t h = by_test (eqb (answer k b) 0) (λ e. rw e (effect_floor k b t h)) (λ e. rw e h)

pub reached_step : (k : Call) (s : Book) → Reached s → timely (call k) ≡ true → Reached (next_of k s)
reached_step k s r t =
    record {
      ledger = step k r.ledger;
      carries = carries_step r.carries k;
      floor_fits = step_floor k r.ledger t r.floor_fits;
    }

pub reached_fresh : (unit : List ℕ) → is_unit unit ≡ true → Reached (book_for unit)
reached_fresh unit e = record { ledger = fresh unit; carries = fresh_carries unit e; floor_fits = omega arith }

-- the answers to calls, with a 0 for each restart between them
abbrev pub woven : List Turn → List ℕ → List ℕ
woven [] l = []
woven (restart out ∷ ts) l = 0 ∷ woven ts l
woven (call k ∷ ts) [] = []
woven (call k ∷ ts) (a ∷ l) = a ∷ woven ts l

-- THE LAW: turns do what their calls do
pub record Alike (ts : List Turn) (s : Book) : Type 0 where
  pub run_is : run restarting ts s ≡ run books (calls_of ts) s
  pub answers_are : answers restarting ts s ≡ woven ts (answers books (calls_of ts) s)
  pub reached : Reached (run restarting ts s)

pub turns_alike : (ts : List Turn) (s : Book) → Reached s → all timely ts ≡ true → Alike ts s
unfolding all
turns_alike [] s r t = record { run_is = refl; answers_are = refl; reached = r }
turns_alike (call k ∷ ts) s r t =
    let p = and_parts (timely (call k)) (all timely ts) t in
    let rest = turns_alike ts (next_of k s) (reached_step k s r p.0) p.1 in
    record { run_is = rest.run_is; answers_are = ap (λ (l : List ℕ). call_number k s ∷ l) rest.answers_are; reached = rest.reached }
turns_alike (restart out ∷ ts) s r t =
    let same = restart_same s out (reached_sized s r) in
    let rest = turns_alike ts s r t in
    let now = ap (run restarting ts) same in
    record {
      run_is = now ∙ rest.run_is;
      answers_are = ap (λ (b : Book). 0 ∷ answers restarting ts b) same ∙ ap (λ (l : List ℕ). 0 ∷ l) rest.answers_are;
      reached = subst Reached (sym now) rest.reached;
    }

-- ---- a command taken and revoked, and restarts anywhere

calls_append : (ts us : List Turn) → calls_of (ts ++ us) ≡ calls_of ts ++ calls_of us
calls_append [] us = refl
calls_append (call k ∷ ts) us = ap (λ (l : List Call). k ∷ l) (calls_append ts us)
calls_append (restart out ∷ ts) us = calls_append ts us

pub calls_unnamed : (unit : List ℕ) (n : Name) (ts : List Turn) → any (turn_names unit n) ts ≡ false → any (names unit n) (calls_of ts) ≡ false
unfolding any
calls_unnamed unit n [] e = refl
calls_unnamed unit n (restart out ∷ ts) e = calls_unnamed unit n ts e
calls_unnamed unit n (call k ∷ ts) e =
    let p = or_parts (names unit n k) (any (turn_names unit n) ts) e in
    rw p.0 (calls_unnamed unit n ts p.1)

-- as many answers as there are calls
pub answers_long : (ks : List Call) (b : Book) → length (answers books ks b) ≡ length ks
answers_long [] b = refl
answers_long (k ∷ ks) b = ap suc (answers_long ks (next_of k b))

pub woven_places : (ts : List Turn) (l : List ℕ) → length l ≡ length (calls_of ts) → any wants_place (woven ts l) ≡ false → any wants_place l ≡ false
unfolding any
woven_places [] [] h e = refl
woven_places [] (a ∷ l) h e = absurd (omega (arith, h))
woven_places (restart out ∷ ts) l h e = woven_places ts l h e
woven_places (call k ∷ ts) [] h e = refl
woven_places (call k ∷ ts) (a ∷ l) h e =
    let p = or_parts (wants_place a) (any wants_place (woven ts l)) e in
    rw p.0 (woven_places ts l (omega (arith, h)) p.1)

-- two texts of answers, cut at the same place
pub cut_alike : (a b c d : List ℕ) → length a ≡ length c → a ++ b ≡ c ++ d → (a ≡ c) × (b ≡ d)
cut_alike [] b [] d h e = (refl, e)
cut_alike [] b (y ∷ c) d h e = absurd (omega (arith, h))
cut_alike (x ∷ a) b [] d h e = absurd (omega (arith, h))
cut_alike (x ∷ a) b (y ∷ c) d h e =
    let first : x ≡ y = cc in
    let others : a ++ b ≡ c ++ d = cc in
    let r = cut_alike a b c d (omega (arith, h)) others in
    (ap₂ (λ (n : ℕ) (l : List ℕ). n ∷ l) first r.0, r.1)

module _ (m : Keeper) where
  pub run_append : (ks js : List m.Call) (s : m.State) → run m (ks ++ js) s ≡ run m js (run m ks s)
  run_append [] js s = refl
  run_append (k ∷ ks) js s = run_append ks js (m.step k s)

  pub answers_append : (ks js : List m.Call) (s : m.State) → answers m (ks ++ js) s ≡ answers m ks s ++ answers m js (run m ks s)
  answers_append [] js s = refl
  answers_append (k ∷ ks) js s = ap (λ (l : List ℕ). m.answer k s ∷ l) (answers_append ks js (m.step k s))
