-- The body of a part, for a separator that is not of a number: past digits, at a byte of a number, and behind the number. Assumes nothing.
use Prim.Native.Nat.{ℕ, min, ◌+◌, ◌-◌, ◌≤◌, ◌<◌}
use Rattle.value_number.specs.Parts.{part_end, is_of_number, part_body}
use Rattle.text.proofs.Cuts.{upto_take, upto_on, upto_over, skip_drop, all_none}
use Rattle.text.proofs.Fronts.{run_front}
use Rattle.text.proofs.Numerals.{digit_range}
use Rattle.text.proofs.Tests.{by_test, and_parts}
use Rattle.text.proofs.Trims.{skip_yes, skip_no, keep_no, end_take, end_length}
use Rattle.text.specs.Bytes.{part, is, upto, any, all, skip, keep, skip_end, is_digit, is_blank, run_of, trim}
use Rattle.text.specs.Digits.{lead_of}
use borrow.Author.Tests.{ne_eqb, eqb-true}
use lib.Dec.{eqb}
use lib.ListN.{length, get_or, take, drop, length-append, length-drop, take-append-drop}
use lib.Seq.{length-take-le, take-append-le, take-take, get_or-take, drop-drop, drop-append_seam}
use mathlib.Core.Bool.{Bool, true, false, true≢false}
use mathlib.Core.List.{List, [], ◌∷◌, ◌++◌}
use mathlib.Core.Path.{◌≡◌, refl, sym, ap, ◌∙◌}
use native.Mathlib.Omega.{arith}

-- ---- without what is at the end

keep_some : (p : ℕ → Bool) (x : ℕ) (l : List ℕ) → 1 ≤ length l → 1 ≤ length (keep p x l)
keep_some p x [] h = absurd (omega arith)
keep_some p x (y ∷ l) h = omega arith

keep_head : (p q : ℕ → Bool) (x : ℕ) (l : List ℕ) → q x ≡ false → skip q (keep p x l) ≡ keep p x l
unfolding skip
keep_head p q x [] n = by_test (p x) (λ e. rw e) (λ e. rw e (rw n))
keep_head p q x (y ∷ l) n = rw n

end_none : (p : ℕ → Bool) (l : List ℕ) → all p l ≡ true → skip_end p l ≡ []
unfolding all skip_end
end_none p [] h = refl
end_none p (x ∷ l) h = let o = and_parts (p x) (all p l) h in rw (end_none p l o.1) (rw o.0)

end_some : (p : ℕ → Bool) (l : List ℕ) → all p l ≡ false → 1 ≤ length (skip_end p l)
unfolding all skip_end
end_some p [] h = absurd (true≢false h)
end_some p (x ∷ l) h =
    by_test (p x) (λ e. keep_some p x (skip_end p l) (end_some p l (rw e at h)))
    (λ e. rw (keep_no p x (skip_end p l) e) (omega arith))

-- ---- the body

-- it begins as the text does
pub body_byte : (sep : ℕ) (t : List ℕ) (i : ℕ) → i < length (part_body sep t) → get_or (part_body sep t) i 0 ≡ get_or t i 0
unfolding part_body
body_byte sep t i h =
    let u = upto (is sep) t in
    ap (λ (l : List ℕ). get_or l i 0) (end_take is_blank u) ∙ get_or-take (length (skip_end is_blank u)) u i 0 h
    ∙ ap (λ (l : List ℕ). get_or l i 0) (upto_take (is sep) t) ∙ get_or-take (length u) t i 0 (omega (arith, end_length is_blank u))

-- what follows the number is blank, or it is not
pub body_none : (sep : ℕ) (u : List ℕ) → all is_blank (upto (is sep) u) ≡ true → length (part_body sep u) ≡ 0
unfolding part_body
body_none sep u h = ap length (end_none is_blank (upto (is sep) u) h)

pub body_some : (sep : ℕ) (u : List ℕ) → all is_blank (upto (is sep) u) ≡ false → 1 ≤ length (part_body sep u)
unfolding part_body
body_some sep u h = end_some is_blank (upto (is sep) u) h

module _ (sep : ℕ) (other : is_of_number sep ≡ false) where
  apart : (b : ℕ) → is_of_number b ≡ true → eqb b sep ≡ false
  apart b h = ne_eqb b sep (λ e. true≢false (sym h ∙ ap is_of_number e ∙ other))

  of_digit : (b : ℕ) → is_digit b ≡ true → is_of_number b ≡ true
  of_digit b h = rw h

  of_blank : (b : ℕ) → is_blank b ≡ true → is_of_number b ≡ true
  of_blank b h = rw (eqb-true b 32 h)

  -- ---- a byte of a number, and digits

  pub body_on : (c : ℕ) (u : List ℕ) → is_of_number c ≡ true → is_blank c ≡ false → part_body sep (c ∷ u) ≡ c ∷ part_body sep u
  unfolding part_body upto skip_end
  body_on c u h n = rw (apart c h) (keep_no is_blank c (skip_end is_blank (upto (is sep) u)) n)

  digit_on : (c : ℕ) (u : List ℕ) → is_digit c ≡ true → part_body sep (c ∷ u) ≡ c ∷ part_body sep u
  digit_on c u h = body_on c u (of_digit c h) (ne_eqb c 32 (λ e. omega (arith, digit_range c h)))

  body_past : (a u : List ℕ) → all is_digit a ≡ true → part_body sep (a ++ u) ≡ a ++ part_body sep u
  unfolding all
  body_past [] u h = refl
  body_past (x ∷ a) u h =
      let o = and_parts (is_digit x) (all is_digit a) h in
      digit_on x (a ++ u) o.0 ∙ ap (λ (l : List ℕ). x ∷ l) (body_past a u o.1)

  other_stays : (x : ℕ) (t : List ℕ) → is_digit x ≡ false → skip is_digit (part_body sep (x ∷ t)) ≡ part_body sep (x ∷ t)
  unfolding part_body upto skip_end skip
  other_stays x t n = by_test (eqb x sep) (λ e. rw e) (λ e. rw e (keep_head is_blank is_digit x (skip_end is_blank (upto (is sep) t)) n))

  skip_body : (t : List ℕ) → skip is_digit (part_body sep t) ≡ part_body sep (skip is_digit t)
  unfolding part_body upto skip_end skip
  skip_body [] = refl
  skip_body (x ∷ t) =
      by_test (is_digit x)
      (λ e. ap (skip is_digit) (digit_on x t e) ∙ skip_yes is_digit x (part_body sep t) e ∙ skip_body t ∙ ap (part_body sep) (sym (skip_yes is_digit x t e)))
      (λ e. other_stays x t e ∙ ap (part_body sep) (sym (skip_no is_digit x t e)))

  -- the digits that a text begins with, and what its body has behind them
  module _ (t : List ℕ) where
    cut : part_body sep t ≡ take (run_of is_digit t) t ++ part_body sep (drop (run_of is_digit t) t)
    cut =
        let r = run_of is_digit t in
        ap (part_body sep) (sym (take-append-drop r t)) ∙ body_past (take r t) (drop r t) (run_front is_digit r t refl)

    digits_length : length (take (run_of is_digit t) t) ≡ run_of is_digit t
    digits_length = length-take-le (run_of is_digit t) t (omega arith)

    pub body_length : length (part_body sep t) ≡ run_of is_digit t + length (part_body sep (drop (run_of is_digit t) t))
    body_length = omega (arith, ap length cut, digits_length, length-append (take (run_of is_digit t) t) (part_body sep (drop (run_of is_digit t) t)))

    pub drop_body : drop (run_of is_digit t) (part_body sep t) ≡ part_body sep (drop (run_of is_digit t) t)
    drop_body =
        let r = run_of is_digit t in
        ap (drop r) cut ∙ ap (λ (k : ℕ). drop k (take r t ++ part_body sep (drop r t))) (sym digits_length)
        ∙ drop-append_seam (take r t) (part_body sep (drop r t))

    pub run_body : run_of is_digit (part_body sep t) ≡ run_of is_digit t
    run_body = omega (arith, body_length, ap length (skip_body t ∙ ap (part_body sep) (skip_drop is_digit t)))

    take_body : (k : ℕ) → k ≤ run_of is_digit t → take k (part_body sep t) ≡ take k t
    take_body k h =
        let r = run_of is_digit t in
        ap (take k) cut ∙ take-append-le k (take r t) (part_body sep (drop r t)) (omega (arith, digits_length)) ∙ take-take k r t h

    pub lead_body : (most : ℕ) → lead_of most t ≡ lead_of most (part_body sep t)
    lead_body most = rw (run_body, take_body (min most (run_of is_digit t)) (omega arith))

  -- ---- where the part ends

  pub end_over : (p : ℕ → Bool) → ((b : ℕ) → p b ≡ true → is_of_number b ≡ true) → (s : List ℕ) (at k : ℕ) → at + k ≤ length s
      → all p (take k (drop at s)) ≡ true
      → part_end sep s (at + k) ≡ part_end sep s at
  end_over p f s at k h a =
      let n : at + k - at ≡ k = omega arith in
      let none : any (is sep) (part at (at + k) s) ≡ false = rw n (all_none (is sep) p (λ b e. apart b (f b e)) (take k (drop at s)) a) in
      omega (arith, upto_over (is sep) s at k h none)

  pub end_step : (s : List ℕ) (at : ℕ) → at < length s → is_of_number (get_or s at 0) ≡ true → part_end sep s (at + 1) ≡ part_end sep s at
  end_step s at h e = omega (arith, ap length (upto_on (is sep) 0 s at h (apart (get_or s at 0) e)))

  -- ---- the blanks before it

  skip_upto : (t : List ℕ) → skip is_blank (upto (is sep) t) ≡ upto (is sep) (skip is_blank t)
  unfolding skip upto
  skip_upto [] = refl
  skip_upto (x ∷ t) =
      by_test (is_blank x)
      (λ e. rw (apart x (of_blank x e), e) (skip_upto t))
      (λ e. by_test (eqb x sep) (λ q. rw (q, e) (rw q)) (λ q. rw (q, e) (rw q)))

  module _ (s : List ℕ) (at from : ℕ) (ee : from ≡ at + run_of is_blank (drop at s)) where
    pub trim_body : trim (upto (is sep) (drop at s)) ≡ part_body sep (drop from s)
    unfolding trim part_body
    trim_body =
        let t = drop at s in
        ap (skip_end is_blank) (skip_upto t)
        ∙ ap (λ (l : List ℕ). skip_end is_blank (upto (is sep) l)) (skip_drop is_blank t ∙ drop-drop (run_of is_blank t) at s ∙ ap (λ (k : ℕ). drop k s) (sym ee))

    pub end_blanks : at ≤ length s → part_end sep s from ≡ part_end sep s at
    end_blanks h =
        let r = run_of is_blank (drop at s) in
        ap (part_end sep s) ee ∙ end_over is_blank of_blank s at r (omega (arith, length-drop at s)) (run_front is_blank r (drop at s) refl)
