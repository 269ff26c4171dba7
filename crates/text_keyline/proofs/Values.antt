-- The ways through the readers of a line: its end, its value, its number.
-- Assumes nothing.
use Rattle.std.specs.Prelude.{None, Option, Some}
use Prim.Native.Nat.{ℕ, ◌+◌, ◌≤◌, ◌<◌}
use Rattle.text_keyline.specs.Keylines.{line_of, value_in, below, whole_in, ranged, if_line, number_at}
use Rattle.value_name.specs.Names.{sequence_of}
use Rattle.text.proofs.Cuts.{upto_take, past_drop, upto_all}
use Rattle.text.proofs.Tests.{by_test, and_parts, within_tells}
use Rattle.text.specs.Bytes.{is, within, any, upto, first_of, starts}
use borrow.Author.Tests.{eqb-true}
use lib.Dec.{eqb}
use lib.ListN.{length, get_or, take, drop}
use mathlib.Core.Bool.{Bool, true, false, ◌&&◌, cond, and-false, false≢true}
use mathlib.Core.List.{List, [], ◌∷◌}
use mathlib.Core.Path.{◌≡◌, refl, sym, ap, ◌∙◌}
use native.Mathlib.Omega.{arith}

-- ---- the end of a line

-- where there is an LF, the first line is shorter than the text
pub upto_less : (s : List ℕ) → any (is 10) s ≡ true → first_of 10 s < length s
unfolding any upto
upto_less [] h = absurd (false≢true h)
upto_less (b ∷ s) h =
    by_test (eqb b 10) (λ e. rw e (omega arith)) (λ e. let r = upto_less s (rw e at h) in rw e (omega arith))

-- and its byte there is the LF
pub first_at : (s : List ℕ) → any (is 10) s ≡ true → get_or s (first_of 10 s) 0 ≡ 10
unfolding any upto
first_at [] h = absurd (false≢true h)
first_at (b ∷ s) h = by_test (eqb b 10) (λ e. rw e (eqb-true b 10 e)) (λ e. rw e (first_at s (rw e at h)))

not_ended : (s : List ℕ) → first_of 10 s ≡ length s → any (is 10) s ≡ false
not_ended s n = by_test (any (is 10) s) (λ h. absurd (omega (arith, upto_less s h))) (λ h. h)

ended : (s : List ℕ) → (first_of 10 s ≡ length s → ⊥) → any (is 10) s ≡ true
ended s n = by_test (any (is 10) s) (λ h. h) (λ h. absurd (n (ap length (upto_all (is 10) s h))))

module _ (key s : List ℕ) (b : Bool) (told : b ≡ starts key s) where
  pub other_key : b ≡ false → None ≡ line_of key s
  unfolding line_of
  other_key n = rw (sym told, n)

  module _ (e : ℕ) (first : e ≡ first_of 10 s) where
    pub no_end : e ≡ length s → None ≡ line_of key s
    unfolding line_of
    no_end n = simp (not_ended s (sym first ∙ n), and-false)

    pub ends_at : b ≡ true → (e ≡ length s → ⊥) → Some e ≡ line_of key s
    unfolding line_of
    ends_at y n = rw (sym told, y, ended s (λ h. n (first ∙ h)), first)

-- what is told by a line
pub line_told : (key s : List ℕ) (e : ℕ) → line_of key s ≡ Some e → (starts key s ≡ true) × (any (is 10) s ≡ true)
unfolding line_of
line_told key s e h = and_parts (starts key s) (any (is 10) s) (chosen (starts key s && any (is 10) s) h)
  where
    chosen : (t : Bool) → cond t (Some (first_of 10 s)) None ≡ Some e → t ≡ true
    chosen true h = refl
    chosen false h = let z : ◌≡◌ {A = ℕ} 0 1 = cc in absurd (omega arith)

-- ---- its value, and what follows it

pub value_at : (s front r : List ℕ) (e n : ℕ) → e ≡ first_of 10 s → front ≡ take e s → r ≡ drop n front → r ≡ drop n (upto (is 10) s)
value_at s front r e n first f g =
    g ∙ ap (λ (l : List ℕ). drop n l) (f ∙ ap (λ (k : ℕ). take k s) first ∙ sym (upto_take (is 10) s))

pub below_at : (s r : List ℕ) (e : ℕ) → e ≡ first_of 10 s → r ≡ drop (e + 1) s → r ≡ below s
below_at s r e first g = g ∙ ap (λ (k : ℕ). drop (k + 1) s) first ∙ sym (past_drop (is 10) s)

-- ---- numbers

module _ (lo hi : ℕ) (s : List ℕ) (d : Option ℕ) (told : d ≡ sequence_of s) where
  pub no_whole : d ≡ None → None ≡ whole_in lo hi s
  unfolding whole_in
  no_whole n = ap (ranged lo hi) (sym n ∙ told)

  pub whole_in_lem : (n : ℕ) → d ≡ Some n → within lo hi n ≡ true → Some n ≡ whole_in lo hi s
  unfolding whole_in
  whole_in_lem n e h = rw (sym told, e, h)

  pub whole_out : (n : ℕ) → d ≡ Some n → within lo hi n ≡ false → None ≡ whole_in lo hi s
  unfolding whole_in
  whole_out n e h = rw (sym told, e, h)

module _ (key : List ℕ) (most : ℕ) (s : List ℕ) (l : Option ℕ) (told : l ≡ line_of key s) where
  pub no_line : l ≡ None → None ≡ number_at key most s
  unfolding number_at
  no_line n = rw (sym told, n)

  pub line_number : (e : ℕ) (v : List ℕ) (d : Option ℕ) → l ≡ Some e → v ≡ value_in key s → d ≡ whole_in 1 most v → d ≡ number_at key most s
  unfolding number_at
  line_number e v d y h n = n ∙ rw (sym told, y, h)

-- a number that was read is within its bounds, in a line that ends
pub number_told : (key : List ℕ) (most : ℕ) (s : List ℕ) (n : ℕ) → Some n ≡ number_at key most s → (1 ≤ n) × (n ≤ most) × (first_of 10 s < length s)
unfolding number_at whole_in
number_told key most s n e = at_line (line_of key s) refl e
  where
    bounds : (t : Bool) (m : ℕ) → Some n ≡ cond t (Some m) None → (t ≡ true) × (m ≡ n)
    bounds true m e = (refl, cc)
    bounds false m e = let z : ◌≡◌ {A = ℕ} 0 1 = cc in absurd (omega arith)

    in_bounds : (d : Option ℕ) → Some n ≡ ranged 1 most d → (1 ≤ n) × (n ≤ most)
    in_bounds None e = let z : ◌≡◌ {A = ℕ} 0 1 = cc in absurd (omega arith)
    in_bounds (Some m) e = let b = bounds (within 1 most m) m e in rw b.1 at ((within_tells 1 most m).0 b.0)

    at_line : (l : Option ℕ) → line_of key s ≡ l → Some n ≡ if_line l (whole_in 1 most (value_in key s)) → (1 ≤ n) × (n ≤ most) × (first_of 10 s < length s)
    at_line None i e = let z : ◌≡◌ {A = ℕ} 0 1 = cc in absurd (omega arith)
    at_line (Some k) i e =
        let b = in_bounds (sequence_of (value_in key s)) e in
        (b.0, b.1, upto_less s (line_told key s k i).1)

pub number_within : (key : List ℕ) (most : ℕ) (s : List ℕ) (n : ℕ) → Some n ≡ number_at key most s → n ≤ most
number_within key most s n e = (number_told key most s n e).1
