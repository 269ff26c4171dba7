-- The bytes that are allowed, one line on: a line of bytes that can be printed, or one that opens with an accented label. Assumes nothing.
use Rattle.std.specs.Prelude.{None, Some}
use Prim.Native.Nat.{ℕ, suc, ◌+◌, ◌-◌, ◌≤◌, ◌<◌}
use Rattle.text_lines.proofs.Spelt.{Accented, all_good, accented_cut, opens_rest, room_is, room_none}
use Rattle.text_lines.proofs.Steps.{OneLine, after, not_bad, of_line, plain_not, run_length}
use Rattle.text_lines.specs.Lines.{allowed, allowed_from, allowed_upto}
use Rattle.text_lines.specs.Places.{not_plain, plain_run, line_run, break_of}
use Rattle.text_lines.specs.Spellings.{Spelling, is_accented, begins_line, opens, label_room}
use Rattle.text.proofs.Cuts.{upto_take, upto_seam, past_seam, past_drop, any_seam, all_append}
use Rattle.text.proofs.Tests.{by_test, and_parts, cond_le}
use Rattle.text.specs.Bytes.{all, any, first_of, is, is_plain, past, trim, upto}
use borrow.Author.Tests.{eqb-true, lt-ltb, not-true, not-false}
use lib.Dec.{ltb, lit<}
use lib.ListN.{length, length-append, get_or, take, drop, take-append-drop}
use lib.Seq.{drop-drop, drop-append_seam}
use mathlib.Core.Bool.{Bool, true, false, ◌&&◌, ◌||◌, and-false, or-true, cond, false≢true}
use mathlib.Core.List.{List, [], ◌∷◌, ◌++◌}
use mathlib.Core.Path.{◌≡◌, refl, sym, ap, ap₂, ◌∙◌, subst}
use native.Mathlib.Omega.{arith}

-- ---- one byte

plain_allowed : (b : ℕ) (bs : List ℕ) → is_plain b ≡ true → allowed b bs ≡ true
unfolding allowed
plain_allowed b [] p = rw p
plain_allowed b (c ∷ cs) p = rw p

bad_here : (b : ℕ) (bs : List ℕ) → not_plain b ≡ true → break_of (b ∷ bs) ≡ None → allowed b bs ≡ false
unfolding break_of allowed
bad_here b [] t h =
    by_test (is 10 b) (λ e. absurd (not_bad (sym (rw e at h)))) (λ e. rw (not-true (is_plain b) t, e))
bad_here b (c ∷ cs) t h =
    by_test (is 10 b) (λ e. absurd (not_bad (sym (rw e at h))))
    (λ e. by_test (is 13 b && is 10 c) (λ u. absurd (not_bad (sym (rw (e, u) at h)))) (λ u. rw (not-true (is_plain b) t, e, u)))

-- ---- a run of bytes that can be printed

pub run_plain : (r : List ℕ) → all is_plain (upto not_plain r) ≡ true
unfolding all upto
run_plain [] = refl
run_plain (b ∷ bs) = by_test (not_plain b) (λ t. rw t) (λ t. rw t (rw (not-false (is_plain b) t) (run_plain bs)))

run_over : (a r : List ℕ) → all is_plain a ≡ true → plain_run (a ++ r) ≡ length a + plain_run r
unfolding all upto
run_over [] r h = omega arith
run_over (b ∷ a) r h =
    let o = and_parts (is_plain b) (all is_plain a) h in
    rw o.0 (omega (arith, run_over a r o.1))

plain_line : (a : List ℕ) → all is_plain a ≡ true → all of_line a ≡ true
unfolding all
plain_line [] h = refl
plain_line (b ∷ a) h =
    let o = and_parts (is_plain b) (all is_plain a) h in
    rw (plain_not b 10 (lit< tt) o.0, plain_not b 13 (lit< tt) o.0) (plain_line a o.1)

run_clear : (r : List ℕ) → all of_line (take (plain_run r) r) ≡ true
run_clear r = ap (all of_line) (sym (upto_take not_plain r)) ∙ plain_line (upto not_plain r) (run_plain r)

module _ (sp : List Spelling) where
  run_on : (a r : List ℕ) (n : ℕ) → all is_plain a ≡ true → allowed_from sp n (a ++ r) ≡ length a + allowed_from sp (n - length a) r
  unfolding allowed_from all
  run_on [] r n h = let z : n - 0 ≡ n = omega arith in rw z (omega arith)
  run_on (b ∷ a) r n h =
      let p = and_parts (is_plain b) (all is_plain a) h in
      let z : n - 1 - length a ≡ n - suc (length a) = omega arith in
      rw (plain_allowed b (a ++ r) p.0, plain_not b 10 (lit< tt) p.0) (omega (arith, run_on a r (n - 1) p.1, ap (λ (m : ℕ). allowed_from sp m r) z))

  over_run : (n : ℕ) (r : List ℕ) → allowed_from sp n r ≡ plain_run r + allowed_from sp (n - plain_run r) (drop (plain_run r) r)
  over_run n r =
      let k = plain_run r in
      let a = upto not_plain r in
      let c : r ≡ a ++ drop k r = sym (take-append-drop k r) ∙ ap (λ (l : List ℕ). l ++ drop k r) (sym (upto_take not_plain r)) in
      ap (allowed_from sp n) c ∙ run_on a (drop k r) n (run_plain r)

  -- ---- what ends a line: the next begins anew

  feed_on : (n : ℕ) (bs : List ℕ) → allowed_from sp n (10 ∷ bs) ≡ 1 + allowed_upto sp bs
  unfolding allowed_from allowed_upto allowed
  feed_on n [] = refl
  feed_on n (c ∷ cs) = omega arith

  return_on : (n : ℕ) (cs : List ℕ) → allowed_from sp n (13 ∷ 10 ∷ cs) ≡ 2 + allowed_upto sp cs
  unfolding allowed_from allowed
  return_on n cs = omega (arith, feed_on (n - 1) cs)

  empty_on : allowed_upto sp [] ≡ 0
  unfolding allowed_upto allowed_from
  empty_on = refl

  break_on : (n m : ℕ) (r : List ℕ) → break_of r ≡ Some m → allowed_from sp n r ≡ m + allowed_upto sp (drop m r)
  unfolding break_of allowed_from
  break_on n m [] h = let e : 0 ≡ m = after h in rw (sym e) (omega (arith, empty_on))
  break_on n m (b ∷ []) h =
      by_test (is 10 b)
      (λ t. let e : 1 ≡ m = after (rw t at h) in rw (sym e) (ap (λ (x : ℕ). allowed_from sp n (x ∷ [])) (eqb-true b 10 t) ∙ feed_on n []))
      (λ t. absurd (not_bad (rw t at h)))
  break_on n m (b ∷ d ∷ cs) h =
      by_test (is 10 b)
      (λ t. let e : 1 ≡ m = after (rw t at h) in rw (sym e) (ap (λ (x : ℕ). allowed_from sp n (x ∷ d ∷ cs)) (eqb-true b 10 t) ∙ feed_on n (d ∷ cs)))
      (λ t.
      by_test (is 13 b && is 10 d)
      (λ u.
      let w = and_parts (is 13 b) (is 10 d) u in
      let e : 2 ≡ m = after (rw (t, u) at h) in
      rw (sym e) (ap₂ (λ (x y : ℕ). allowed_from sp n (x ∷ y ∷ cs)) (eqb-true b 13 w.0) (eqb-true d 10 w.1) ∙ return_on n cs))
      (λ u. absurd (not_bad (rw (t, u) at h))))

  -- a line that is all printable, whatever is left of a label's part
  line_on : (n m : ℕ) (r : List ℕ) → break_of (drop (plain_run r) r) ≡ Some m
      → allowed_from sp n r ≡ (plain_run r + m) + allowed_upto sp (drop (plain_run r + m) r)
  line_on n m r h =
      let k = plain_run r in
      let b = break_on (n - k) m (drop k r) h in
      omega (arith, over_run n r, b, ap (allowed_upto sp) (drop-drop m k r))

  -- the run stops past what is left of a label's part: the byte there is the first that is not allowed
  stop_on : (n : ℕ) (r : List ℕ) → break_of (drop (plain_run r) r) ≡ None → n ≤ plain_run r → allowed_from sp n r ≡ plain_run r
  unfolding allowed_from upto break_of
  stop_on n [] h k = refl
  stop_on n (b ∷ bs) h k =
      by_test (not_plain b)
      (λ t.
      let z : n ≡ 0 = let w : n ≤ 0 = rw t at k in omega (arith, w) in
      rw (t, z, bad_here b bs t (rw t at h)) (simp and-false))
      (λ t.
      let p = not-false (is_plain b) t in
      let w : n ≤ suc (plain_run bs) = rw t at k in
      rw (t, plain_allowed b bs p, plain_not b 10 (lit< tt) p) (ap suc (stop_on (n - 1) bs (rw t at h) (omega (arith, w)))))

  -- ---- a line that opens with an accented label: bytes that can be printed, E0, and again such bytes, past the '='

  accent_on : (n : ℕ) (r : List ℕ) → 0 < n → allowed_from sp n (224 ∷ r) ≡ 1 + allowed_from sp (n - 1) r
  unfolding allowed_from allowed
  accent_on n [] h = rw (lt-ltb 0 n h)
  accent_on n (c ∷ r) h = rw (lt-ltb 0 n h) (omega arith)

  module _ (r : List ℕ) (a : Accented r) where
    abbrev rest : List ℕ
    rest = a.back ++ 61 ∷ a.rest

    accent_line : allowed_from sp (first_of 61 r) r ≡ (length a.front + 1) + allowed_from sp (length a.back) rest
    accent_line =
        let n = first_of 61 r in
        let m : n - length a.front ≡ suc (length a.back) = omega (arith, a.room) in
        let o : suc (length a.back) - 1 ≡ length a.back = omega arith in
        let one : 0 < suc (length a.back) = omega arith in
        omega (
          arith,
          ap (allowed_from sp n) a.cut ∙ run_on a.front (224 ∷ rest) n a.front_plain
              ∙ ap (λ (x : ℕ). length a.front + allowed_from sp x (224 ∷ rest)) m,
          accent_on (suc (length a.back)) rest one ∙ ap (λ (x : ℕ). 1 + allowed_from sp x rest) o,
        )

    past_equals : length a.back + 1 ≤ plain_run rest
    unfolding upto
    past_equals = omega (arith, run_over a.back (61 ∷ a.rest) a.back_plain)

    stops_at : plain_run r ≡ length a.front
    unfolding upto
    stops_at = ap plain_run a.cut ∙ run_over a.front (224 ∷ rest) a.front_plain ∙ omega arith

drop_past : (a : List ℕ) (x : ℕ) (l : List ℕ) (j : ℕ) → drop (length a + 1 + j) (a ++ x ∷ l) ≡ drop j l
drop_past [] x l j = let z : 0 + 1 + j ≡ suc j = omega arith in rw z
drop_past (b ∷ a) x l j = let z : suc (length a) + 1 + j ≡ suc (length a + 1 + j) = omega arith in rw z (drop_past a x l j)

take_past : (a : List ℕ) (x : ℕ) (l : List ℕ) (j : ℕ) → take (length a + 1 + j) (a ++ x ∷ l) ≡ a ++ x ∷ take j l
take_past [] x l j = let z : 0 + 1 + j ≡ suc j = omega arith in rw z
take_past (b ∷ a) x l j = let z : suc (length a) + 1 + j ≡ suc (length a + 1 + j) = omega arith in rw z (ap (λ (t : List ℕ). b ∷ t) (take_past a x l j))

-- ---- the line that stands first

module _ (sp : List Spelling) (good : all_good sp ≡ true) (r : List ℕ) where
  plain_run_lem : opens sp (upto (is 10) r) ≡ false → line_run sp r ≡ plain_run r
  unfolding line_run
  plain_run_lem o = rw o

  module _ (o : opens sp (upto (is 10) r) ≡ true) where
    pub accented : Accented r
    accented =
        let w = and_parts (any (is 61) r) (is_accented sp (trim (upto (is 61) r))) (sym (opens_rest sp r good) ∙ o) in
        accented_cut sp r good w.0 w.1

    abbrev beyond : List ℕ
    beyond = accented.back ++ 61 ∷ accented.rest

    -- behind the accent and i bytes more
    past_is : (i : ℕ) → drop (length accented.front + 1 + i) r ≡ drop i beyond
    past_is i = ap (drop (length accented.front + 1 + i)) accented.cut ∙ drop_past accented.front 224 beyond i

    far_run : line_run sp r ≡ length accented.front + 1 + plain_run beyond
    unfolding line_run
    far_run =
        let f = stops_at sp r accented in
        let z : length accented.front + 1 ≡ length accented.front + 1 + 0 = omega arith in
        rw o (ap (λ (k : ℕ). k + 1 + plain_run (drop (k + 1) r)) f
        ∙ ap (λ (l : List ℕ). length accented.front + 1 + plain_run l) (ap (λ (k : ℕ). drop k r) z ∙ past_is 0))

    far_allowed : allowed_upto sp r ≡ (length accented.front + 1) + allowed_from sp (length accented.back) beyond
    unfolding allowed_upto
    far_allowed = ap (λ (n : ℕ). allowed_from sp n r) (room_is sp r o) ∙ accent_line sp r accented

    far_line : OneLine r (length accented.front + 1 + plain_run beyond)
    unfolding all
    far_line =
        record {
          inside = omega (arith, ap length accented.cut ∙ length-append accented.front (224 ∷ beyond), run_length beyond);
          clear =
              ap (λ (l : List ℕ). all of_line (take (length accented.front + 1 + plain_run beyond) l)) accented.cut
              ∙ ap (all of_line) (take_past accented.front 224 beyond (plain_run beyond))
              ∙ all_append of_line accented.front (224 ∷ take (plain_run beyond) beyond) (plain_line accented.front accented.front_plain)
              (run_clear beyond);
        }

  -- where a line opens so, the first run stops at E0
  pub stops_accent : opens sp (upto (is 10) r) ≡ true → (plain_run r < length r) × (get_or (drop (plain_run r) r) 0 0 ≡ 224)
  stops_accent o =
      let a = accented o in
      let f = stops_at sp r a in
      let n = ap length a.cut ∙ length-append a.front (224 ∷ beyond o) in
      (omega (arith, f, n), ap (λ (k : ℕ). get_or (drop k r) 0 0) f ∙ ap (λ (l : List ℕ). get_or (drop (length a.front) l) 0 0) a.cut ∙ ap (λ (l : List ℕ). get_or l 0 0) (drop-append_seam a.front (224 ∷ beyond o)))

  -- and the line has the label whole, with its '='
  pub opens_inside : opens sp (upto (is 10) r) ≡ true → first_of 61 r < line_run sp r
  opens_inside o = omega (arith, far_run o, (accented o).room, past_equals sp r (accented o))

  -- its bytes are of one line
  pub line_run_lem : OneLine r (line_run sp r)
  line_run_lem =
      by_test (opens sp (upto (is 10) r)) (λ o. subst (OneLine r) (sym (far_run o)) (far_line o))
      (λ o. subst (OneLine r) (sym (plain_run_lem o)) (record { inside = run_length r; clear = run_clear r }))

  -- where it ends, its bytes and those that end it are allowed
  pub allowed_step : (n : ℕ) → break_of (drop (line_run sp r) r) ≡ Some n
      → allowed_upto sp r ≡ (line_run sp r + n) + allowed_upto sp (drop (line_run sp r + n) r)
  unfolding allowed_upto
  allowed_step n h =
      by_test (opens sp (upto (is 10) r))
      (λ o.
      let k = far_run o in
      let j = length (accented o).front + 1 in
      let p = plain_run (beyond o) in
      let b : break_of (drop p (beyond o)) ≡ Some n = ap break_of (sym (past_is o p)) ∙ ap (λ (i : ℕ). break_of (drop i r)) (sym k) ∙ h in
      let e : j + p + n ≡ j + (p + n) = omega arith in
      let d : drop (j + p + n) r ≡ drop (p + n) (beyond o) = ap (λ (i : ℕ). drop i r) e ∙ past_is o (p + n) in
      rw k (omega (arith, far_allowed o, line_on sp (length (accented o).back) n (beyond o) b, ap (allowed_upto sp) d)))
      (λ o.
      let k = plain_run_lem o in
      rw k (line_on sp (label_room sp (upto (is 10) r)) n r (ap (λ (i : ℕ). break_of (drop i r)) (sym k) ∙ h)))

  -- where it does not, the byte there is the first that is not allowed
  pub allowed_stop : break_of (drop (line_run sp r) r) ≡ None → allowed_upto sp r ≡ line_run sp r
  unfolding allowed_upto
  allowed_stop h =
      by_test (opens sp (upto (is 10) r))
      (λ o.
      let k = far_run o in
      let p = plain_run (beyond o) in
      let b : break_of (drop p (beyond o)) ≡ None = ap break_of (sym (past_is o p)) ∙ ap (λ (i : ℕ). break_of (drop i r)) (sym k) ∙ h in
      let s = stop_on sp (length (accented o).back) (beyond o) b (omega (arith, past_equals sp r (accented o))) in
      rw k (omega (arith, far_allowed o, s)))
      (λ o.
      let k = plain_run_lem o in
      rw (k, room_none sp r o) (stop_on sp 0 r (ap (λ (i : ℕ). break_of (drop i r)) (sym k) ∙ h) (omega arith)))

from_length : (sp : List Spelling) (n : ℕ) (r : List ℕ) → allowed_from sp n r ≤ length r
unfolding allowed_from
from_length sp n [] = omega arith
from_length sp n (b ∷ bs) =
    let h = from_length sp (cond (is 10 b) (label_room sp (upto (is 10) bs)) (n - 1)) bs in
    cond_le (allowed b bs || (is 224 b && ltb 0 n)) (omega arith) (omega arith)

pub allowed_length : (sp : List Spelling) (r : List ℕ) → allowed_upto sp r ≤ length r
unfolding allowed_upto
allowed_length sp r = from_length sp (label_room sp (upto (is 10) r)) r

-- ---- lines that differ in the accent of their label alone

module _ (sp : List Spelling) (good : all_good sp ≡ true) where
  -- a text p before the first '=' that is, trimmed, such a label
  module _ (p rest : List ℕ) (no_equals : any (is 61) p ≡ false) where
    abbrev line : List ℕ
    line = p ++ 61 ∷ rest

    before_is : upto (is 61) line ≡ p
    before_is = upto_seam (is 61) p 61 rest no_equals refl

    value_is : past (is 61) line ≡ rest
    value_is = past_seam (is 61) p 61 rest no_equals refl

    opens_is : opens sp (upto (is 10) line) ≡ is_accented sp (trim p)
    opens_is = opens_rest sp line good ∙ rw (any_seam (is 61) p 61 rest refl, before_is)

    -- behind the '=' no byte of the label's part is left
    accented_allowed : is_accented sp (trim p) ≡ true → allowed_upto sp line ≡ length p + allowed_from sp 0 (61 ∷ rest)
    accented_allowed a =
        let o = opens_is ∙ a in
        let c = accented sp good line o in
        let k = length c.back in
        let n : length c.front + 1 + (k + 1) ≡ first_of 61 line + 1 = omega (arith, c.room) in
        let left : c.rest ≡ rest =
        sym (ap (drop 1) (drop-append_seam c.back (61 ∷ c.rest)))
        ∙ drop-drop 1 k (c.back ++ 61 ∷ c.rest)
        ∙ sym (drop_past c.front 224 (c.back ++ 61 ∷ c.rest) (k + 1))
        ∙ ap (drop (length c.front + 1 + (k + 1))) (sym c.cut)
        ∙ ap (λ (m : ℕ). drop m line) n
        ∙ sym (past_drop (is 61) line) ∙ value_is in
        let none_left : k - k ≡ 0 = omega arith in
        let run = run_on sp c.back (61 ∷ c.rest) k c.back_plain ∙ ap₂ (λ (n : ℕ) (l : List ℕ). k + allowed_from sp n (61 ∷ l)) none_left left in
        omega (arith, far_allowed sp good line o, run, c.room, ap length before_is)

    plain_allowed_line : all is_plain p ≡ true → is_accented sp (trim p) ≡ false → allowed_upto sp line ≡ length p + allowed_from sp 0 (61 ∷ rest)
    unfolding allowed_upto
    plain_allowed_line h a =
        let none_left : 0 - length p ≡ 0 = omega arith in
        ap (λ (n : ℕ). allowed_from sp n line) (room_none sp line (opens_is ∙ a)) ∙ run_on sp p (61 ∷ rest) 0 h
        ∙ ap (λ (n : ℕ). length p + allowed_from sp n (61 ∷ rest)) none_left

  -- the one with the accent, and the other without
  pub spelt_allowed : (p q rest : List ℕ) → any (is 61) p ≡ false → any (is 61) q ≡ false → length p ≡ length q → is_accented sp (trim p) ≡ true
      → all is_plain q ≡ true → is_accented sp (trim q) ≡ false → allowed_upto sp (p ++ 61 ∷ rest) ≡ allowed_upto sp (q ++ 61 ∷ rest)
  spelt_allowed p q rest e f n a h b =
      accented_allowed p rest e a ∙ ap (λ (k : ℕ). k + allowed_from sp 0 (61 ∷ rest)) n ∙ sym (plain_allowed_line q rest f h b)

-- ---- what stands below lines that are the same

upto_front : (p : ℕ → Bool) (s t : List ℕ) → any p s ≡ true → upto p (s ++ t) ≡ upto p s
unfolding any upto
upto_front p [] t h = absurd (false≢true h)
upto_front p (x ∷ s) t h = by_test (p x) (λ e. rw e) (λ e. rw e (ap (λ (l : List ℕ). x ∷ l) (upto_front p s t (rw e at h))))

module _ (sp : List Spelling) (x y : List ℕ) (e : allowed_upto sp x ≡ allowed_upto sp y) where
  ends_some : (b : ℕ) (bs : List ℕ) → begins_line (b ∷ bs) ≡ true → any (is 10) (b ∷ bs) ≡ true
  unfolding any
  ends_some b [] h = rw h
  ends_some b (c ∷ bs) h = rw (ends_some c bs h) (or-true (is 10 b))

  below_from : (n b : ℕ) (bs : List ℕ) → begins_line (b ∷ bs) ≡ true → allowed_from sp n (b ∷ (bs ++ x)) ≡ allowed_from sp n (b ∷ (bs ++ y))
  unfolding allowed_from allowed
  below_from n b [] h =
      ap (λ (z : ℕ). allowed_from sp n (z ∷ x)) (eqb-true b 10 h) ∙ feed_on sp n x ∙ ap (λ (k : ℕ). 1 + k) e ∙ sym (feed_on sp n y)
      ∙ ap (λ (z : ℕ). allowed_from sp n (z ∷ y)) (sym (eqb-true b 10 h))
  below_from n b (c ∷ bs) h =
      let some = ends_some c bs h in
      let room : upto (is 10) (c ∷ (bs ++ x)) ≡ upto (is 10) (c ∷ (bs ++ y)) =
      upto_front (is 10) (c ∷ bs) x some ∙ sym (upto_front (is 10) (c ∷ bs) y some) in
      rw room
      (ap (λ (k : ℕ). cond ((is_plain b || is 10 b || (is 13 b && is 10 c)) || (is 224 b && ltb 0 n)) (suc k) 0)
      (below_from (cond (is 10 b) (label_room sp (upto (is 10) (c ∷ (bs ++ y)))) (n - 1)) c bs h))

  pub below_allowed : (before : List ℕ) → begins_line before ≡ true → allowed_upto sp (before ++ x) ≡ allowed_upto sp (before ++ y)
  unfolding allowed_upto
  below_allowed [] h = e
  below_allowed (b ∷ bs) h =
      let some = ends_some b bs h in
      let room : upto (is 10) (b ∷ (bs ++ x)) ≡ upto (is 10) (b ∷ (bs ++ y)) =
      upto_front (is 10) (b ∷ bs) x some ∙ sym (upto_front (is 10) (b ∷ bs) y some) in
      ap (λ (l : List ℕ). allowed_from sp (label_room sp l) (b ∷ (bs ++ x))) room ∙ below_from (label_room sp (upto (is 10) (b ∷ (bs ++ y)))) b bs h
