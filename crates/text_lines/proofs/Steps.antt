-- One turn of a walk over the lines: bytes of one line, and those that end it. Assumes nothing.
use Rattle.std.specs.Prelude.{None, Some}
use Prim.Native.Nat.{ℕ, zero, suc, ◌+◌, ◌≤◌, ◌<◌}
use Rattle.text_lines.specs.Lines.{push, lines, text_of, texts}
use Rattle.text_lines.specs.Places.{not_plain, plain_run, break_of}
use Rattle.text.proofs.Cuts.{upto_length}
use Rattle.text.proofs.Tests.{by_test, by_le, and_parts, within_tells}
use Rattle.text.specs.Bytes.{all, is, is_plain, upto, past, trim}
use borrow.Author.Tests.{eqb-true, ne_eqb}
use lib.ListN.{length, take, drop, drop_of_length-le}
use mathlib.Core.Bool.{Bool, true, false, not, ◌&&◌, ◌||◌, false≢true}
use mathlib.Core.List.{List, [], ◌∷◌, map}
use mathlib.Core.Path.{◌≡◌, refl, sym, ap, ap₂, ◌∙◌, subst}
use native.Mathlib.Omega.{arith}

-- ---- the shape of a turn

pub after : {m n : ℕ} → Some m ≡ Some n → m ≡ n
after e = cc

pub not_bad : {n : ℕ} → None ≡ Some n → ⊥
not_bad e = let z : ◌≡◌ {A = ℕ} 0 1 = cc in omega arith

pub break_here : (P : List ℕ → ℕ → ℕ → Type 0) → ((bs : List ℕ) → P (10 ∷ bs) 0 1) → ((cs : List ℕ) → P (13 ∷ 10 ∷ cs) 0 2)
    → (b : ℕ) (bs : List ℕ) (n : ℕ) → break_of (b ∷ bs) ≡ Some n → P (b ∷ bs) 0 n
unfolding break_of
break_here P f c b [] n h =
    by_test (is 10 b) (λ t. subst (λ (m : ℕ). P (b ∷ []) 0 m) (after (rw t at h)) (rw (eqb-true b 10 t) (f []))) (λ t. absurd (not_bad (rw t at h)))
break_here P f c b (d ∷ cs) n h =
    by_test (is 10 b) (λ t. subst (λ (m : ℕ). P (b ∷ d ∷ cs) 0 m) (after (rw t at h)) (rw (eqb-true b 10 t) (f (d ∷ cs))))
    (λ t.
    by_test (is 13 b && is 10 d)
    (λ u.
    let w = and_parts (is 13 b) (is 10 d) u in
    subst (λ (m : ℕ). P (b ∷ d ∷ cs) 0 m) (after (rw (t, u) at h)) (rw (eqb-true b 13 w.0, eqb-true d 10 w.1) (c cs)))
    (λ u. absurd (not_bad (rw (t, u) at h))))

-- a byte that ends no line: neither LF nor CR
abbrev pub of_line : ℕ → Bool
of_line b = not (is 10 b || is 13 b)

pub of_line_lem : (b : ℕ) → of_line b ≡ true → (is 10 b ≡ false) × (is 13 b ≡ false)
of_line_lem b h =
    by_test (is 10 b) (λ e. absurd (false≢true (rw e at h)))
    (λ e. by_test (is 13 b) (λ f. absurd (false≢true (rw (e, f) at h))) (λ f. (e, f)))

-- a byte that can be printed is one
pub plain_not : (b e : ℕ) → e < 32 → is_plain b ≡ true → is e b ≡ false
plain_not b e h p = ne_eqb b e (λ q. omega (arith, ((within_tells 32 126 b).0 p).0))

-- the first k bytes stand in one line
pub record OneLine (r : List ℕ) (k : ℕ) : Type 0 where
  pub inside : k ≤ length r
  pub clear : all of_line (take k r) ≡ true

-- what holds at the end of the file, at LF and at CR LF, and of one more byte in front, holds of every turn
pub by_turn : (P : List ℕ → ℕ → ℕ → Type 0) → P [] 0 0
    → ((b : ℕ) (bs : List ℕ) (k n : ℕ) → of_line b ≡ true → P bs k n → P (b ∷ bs) (suc k) n)
    → ((bs : List ℕ) → P (10 ∷ bs) 0 1)
    → ((cs : List ℕ) → P (13 ∷ 10 ∷ cs) 0 2)
    → (r : List ℕ) (k n : ℕ) → OneLine r k → break_of (drop k r) ≡ Some n → P r k n
unfolding break_of all
by_turn P e p f c [] zero n l h = subst (λ (m : ℕ). P [] 0 m) (after h) e
by_turn P e p f c [] (suc k) n l h = absurd (omega (arith, l.inside))
by_turn P e p f c (b ∷ bs) zero n l h = break_here P f c b bs n h
by_turn P e p f c (b ∷ bs) (suc k) n l h =
    let o = and_parts (of_line b) (all of_line (take k bs)) l.clear in
    let more : OneLine bs k = record { inside = omega (arith, l.inside); clear = o.1 } in
    p b bs k n o.0 (by_turn P e p f c bs k n more h)

-- ---- the laws of a turn

pub run_length : (r : List ℕ) → plain_run r ≤ length r
run_length r = upto_length not_plain r

-- the lines of a file that is not empty: the first, and those after it
pub lines_step : (s : List ℕ) → 0 < length s → lines s ≡ upto (is 10) s ∷ lines (past (is 10) s)
unfolding lines upto past
lines_step [] h = absurd (omega (arith, h))
lines_step (b ∷ []) h = by_test (is 10 b) (λ e. rw e) (λ e. rw e)
lines_step (b ∷ c ∷ cs) h = by_test (is 10 b) (λ e. rw e) (λ e. rw e (ap (push b) (lines_step (c ∷ cs) (omega arith))))

-- the first line without its CR, and what follows it
abbrev pub Cut : List ℕ → ℕ → ℕ → Type 0
Cut r k n = (upto (is 13) (upto (is 10) r) ≡ take k r) × (past (is 10) r ≡ drop (k + n) r)

pub cut : (r : List ℕ) (k n : ℕ) → OneLine r k → break_of (drop k r) ≡ Some n → Cut r k n
unfolding upto past
cut = by_turn Cut (refl, refl)
    (λ b bs k n p h.
    let m : suc k + n ≡ suc (k + n) = omega arith in
    let o = of_line_lem b p in
    rw (o.0, m) (rw o.1 (ap (λ (l : List ℕ). b ∷ l) h.0), h.1))
    (λ bs. (refl, refl))
    (λ cs. (refl, refl))

pub line_step : (r : List ℕ) (k n : ℕ) → 0 < length r → OneLine r k → break_of (drop k r) ≡ Some n → texts r ≡ trim (take k r) ∷ texts (drop (k + n) r)
unfolding texts text_of
line_step r k n h l e =
    let w = cut r k n l e in
    ap (map text_of) (lines_step r h) ∙ ap₂ (λ (l t : List ℕ). trim l ∷ map text_of (lines t)) w.0 w.1

-- ---- what ends a line

pub break_length : (r : List ℕ) (n : ℕ) → break_of r ≡ Some n → n ≤ length r
unfolding break_of
break_length [] n h = omega (arith, after h)
break_length (b ∷ bs) n h = break_here (λ r k m. m ≤ length r) (λ bs. omega arith) (λ cs. omega arith) b bs n h

pub break_some : (r : List ℕ) (n : ℕ) → 0 < length r → break_of r ≡ Some n → 1 ≤ n
break_some [] n k h = absurd (omega (arith, k))
break_some (b ∷ bs) n k h = break_here (λ r k m. 1 ≤ m) (λ bs. omega arith) (λ cs. omega arith) b bs n h

pub stop_length : (r : List ℕ) (k : ℕ) → break_of (drop k r) ≡ None → k < length r
unfolding break_of
stop_length r k h = by_le (length r) k (λ z. absurd (not_bad (sym h ∙ ap break_of (drop_of_length-le r z)))) (λ z. z)
