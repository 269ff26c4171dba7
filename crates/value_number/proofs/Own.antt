-- A text that is read as a number and that stands in its shortest form is the number's own text. Assumes nothing.
use Rattle.std.specs.Prelude.{None, Option, Some}
use Prim.Native.Nat.{ℕ, zero, suc, ◌+◌, ◌-◌, ◌*◌, ◌/◌, ◌%◌, ◌^◌, ◌≤◌, ◌<◌}
use Rattle.value_number.proofs.Laws.{fraction_below}
use Rattle.value_number.proofs.Texts.{fraction_less, fraction_here, decimals_some}
use Rattle.value_number.specs.Number.{scaled, fraction_of, joined_digits, unsigned_of, plus, minus, number_of}
use Rattle.value_number.specs.Number.{fraction_text, sign_text, number_text, zero_fits, decimals_past, short_from, are_short}
use Rattle.text.proofs.Backs.{digits_back, whole_own}
use Rattle.text.proofs.Numerals.{digit_range, told}
use Rattle.text.proofs.Tests.{by_eq, by_test, and_parts}
use Rattle.text.specs.Bytes.{all, any, upto, is_digit, is_blank, first_of}
use Rattle.text.specs.Digits.{number_from, number_in, digits_of, digits_text, whole_text}
use borrow.Author.Tests.{eq-eqb, ne_eqb, eqb-true, not-true}
use lib.Dec.{eqb}
use lib.IntN.{ℤ, pos, negsuc}
use lib.ListN.{length, get_or, take, drop, take-append-drop}
use mathlib.Core.Bool.{Bool, true, false, not, ◌&&◌, ◌||◌, false≢true}
use mathlib.Core.List.{List, [], ◌∷◌, ◌++◌}
use mathlib.Core.Path.{◌≡◌, refl, sym, ap, ap₂, ◌∙◌}
use native.Mathlib.Omega.{arith}

-- ---- what the shortest form says

digit_stays : (b : ℕ) (dec : Bool) → is_digit b ≡ true → decimals_past b dec ≡ dec
digit_stays b true e =
    let r = digit_range b e in
    rw (ne_eqb b 46 (λ q. omega arith), ne_eqb b 59 (λ q. omega arith), ne_eqb b 44 (λ q. omega arith))
digit_stays b false e = let r = digit_range b e in rw (ne_eqb b 46 (λ q. omega arith))

-- one byte of it, and the rest
record Step (p : ℕ) (dec : Bool) (b : ℕ) (s : List ℕ) : Type 0 where
  dark : is_blank b ≡ false
  fits : b ≡ 48 → zero_fits p dec (get_or s 0 0) ≡ true
  rest : short_from b (decimals_past b dec) s ≡ true

step : (p : ℕ) (dec : Bool) (b : ℕ) (s : List ℕ) → short_from p dec (b ∷ s) ≡ true → Step p dec b s
unfolding short_from
step p dec b s e =
    let o = and_parts (not (eqb b 32) && (not (eqb b 48) || zero_fits p dec (get_or s 0 0))) (short_from b (decimals_past b dec) s) e in
    let q = and_parts (not (eqb b 32)) (not (eqb b 48) || zero_fits p dec (get_or s 0 0)) o.0 in
    record { dark = not-true (eqb b 32) q.0; fits = λ z. rw (eq-eqb b 48 z) at q.1; rest = o.1 }

-- no blank stands in it
pub short_dark : (p : ℕ) (dec : Bool) (s : List ℕ) → short_from p dec s ≡ true → any is_blank s ≡ false
unfolding any
short_dark p dec [] e = refl
short_dark p dec (b ∷ s) e = let o = step p dec b s e in rw o.dark (short_dark b (decimals_past b dec) s o.rest)

-- past digits
short_digits : (p : ℕ) (dec : Bool) (w y : List ℕ) → all is_digit w ≡ true → short_from p dec (w ++ y) ≡ true → (q : ℕ) × (short_from q dec y ≡ true)
unfolding all
short_digits p dec [] y a h = (p, h)
short_digits p dec (b ∷ w) y a h =
    let o = and_parts (is_digit b) (all is_digit w) a in
    short_digits b dec w y o.1 (rw (digit_stays b dec o.0) at (step p dec b (w ++ y) h).rest)

last_decimal : (p : ℕ) (w : List ℕ) (z : ℕ) → all is_digit w ≡ true → short_from p true (w ++ z ∷ []) ≡ true → z ≡ 48 → ⊥
unfolding zero_fits
last_decimal p w z a h e =
    let r = short_digits p true w (z ∷ []) a h in
    false≢true ((step r.0 true z [] r.1).fits e)

no_lead : (p b c : ℕ) (t : List ℕ) → is_digit p ≡ false → is_digit c ≡ true → short_from p false (b ∷ c ∷ t) ≡ true → b ≡ 48 → ⊥
unfolding zero_fits
no_lead p b c t n d h e = false≢true (sym n ∙ rw d at ((step p false b (c ∷ t) h).fits e))

-- ---- the digits before the point

whole_short : (d y : List ℕ) (p : ℕ) → all is_digit d ≡ true → 1 ≤ length d → length d ≤ 6 → is_digit p ≡ false → short_from p false (d ++ y) ≡ true
    → whole_text 6 (number_in d) ≡ d
unfolding all
whole_short d y p a h k n s = whole_own 6 d a h (omega arith) (λ two. leads d a two s)
  where
    leads : (d : List ℕ) → all is_digit d ≡ true → 2 ≤ length d → short_from p false (d ++ y) ≡ true → get_or d 0 0 ≡ 48 → ⊥
    leads [] a h s = absurd (omega arith)
    leads (b ∷ []) a h s = absurd (omega arith)
    leads (b ∷ c ∷ t) a h s =
        let o = and_parts (is_digit b) (all is_digit (c ∷ t)) a in
        no_lead p b c (t ++ y) n (and_parts (is_digit c) (all is_digit t) o.1).0 s

-- ---- the decimals

down : (k m : ℕ) → 0 < k → fraction_text k (m * 10) ≡ fraction_text (k - 1) m
down k m h = let e : m * 10 / 10 ≡ m = omega arith in fraction_less k (m * 10) h (omega arith) ∙ ap (fraction_text (k - 1)) e

stop : (k m : ℕ) → 0 < k → (m % 10 ≡ 0 → ⊥) → fraction_text k m ≡ 46 ∷ digits_text k m
stop k m h n = fraction_here k m h n ∙ sym (decimals_some k m (λ e. omega arith))

fraction_own : (d : List ℕ) (p : ℕ) → all is_digit d ≡ true → 1 ≤ length d → length d ≤ 3 → short_from p true d ≡ true
    → fraction_text 3 (number_in d * 10 ^ (3 - length d)) ≡ 46 ∷ d
unfolding number_from all
fraction_own [] p a h k s = absurd (omega arith)
fraction_own (x ∷ []) p a h k s =
    let o = digit_range x (and_parts (is_digit x) true a).0 in
    let z = last_decimal p [] x refl s in
    let m = number_in (x ∷ []) in
    let e : m * 100 ≡ m * 10 * 10 = omega arith in
    ap (fraction_text 3) e ∙ down 3 (m * 10) (omega arith) ∙ down 2 m (omega arith) ∙ stop 1 m (omega arith) (λ q. z (omega arith))
    ∙ ap (λ (t : List ℕ). 46 ∷ t) (digits_back (x ∷ []) a)
fraction_own (x ∷ y ∷ []) p a h k s =
    let o = and_parts (is_digit x) (is_digit y && true) a in
    let r = digit_range y (and_parts (is_digit y) true o.1).0 in
    let z = last_decimal p (x ∷ []) y (rw o.0) s in
    let m = number_in (x ∷ y ∷ []) in
    down 3 m (omega arith) ∙ stop 2 m (omega arith) (λ q. z (omega arith)) ∙ ap (λ (t : List ℕ). 46 ∷ t) (digits_back (x ∷ y ∷ []) a)
fraction_own (x ∷ y ∷ w ∷ []) p a h k s =
    let o = and_parts (is_digit x) (is_digit y && (is_digit w && true)) a in
    let q = and_parts (is_digit y) (is_digit w && true) o.1 in
    let r = digit_range w (and_parts (is_digit w) true q.1).0 in
    let z = last_decimal p (x ∷ y ∷ []) w (rw (o.0, q.0)) s in
    let m = number_in (x ∷ y ∷ w ∷ []) in
    let e : m * 1 ≡ m = omega arith in
    ap (fraction_text 3) e ∙ stop 3 m (omega arith) (λ q. z (omega arith)) ∙ ap (λ (t : List ℕ). 46 ∷ t) (digits_back (x ∷ y ∷ w ∷ []) a)
fraction_own (x ∷ y ∷ w ∷ v ∷ t) p a h k s = absurd (omega arith)

-- ---- the number without its sign

-- where a text is divided at the first b, b stands
at_first : (b : ℕ) (u : List ℕ) (c : ℕ) (t : List ℕ) → drop (first_of b u) u ≡ c ∷ t → c ≡ b
unfolding upto
at_first b [] c t e = let z : ◌≡◌ {A = ℕ} 0 1 = cc in absurd (omega arith)
at_first b (x ∷ u) c t e =
    by_test (eqb x b)
    (λ y. let f : x ∷ u ≡ c ∷ t = rw y at e in let g : x ≡ c = cc in sym g ∙ eqb-true x b y)
    (λ n. at_first b u c t (rw n at e))

-- n thousandths
abbrev thousandths : ℕ → List ℕ
thousandths n = whole_text 6 (n / 1000) ++ fraction_text 3 (n % 1000)

module _ (u : List ℕ) (p : ℕ) (other : is_digit p ≡ false) (short : short_from p false u ≡ true) where
  abbrev k : ℕ
  k = first_of 46 u

  cut : (t : List ℕ) → drop k u ≡ t → u ≡ take k u ++ t
  cut t e = sym (take-append-drop k u) ∙ ap (λ (x : List ℕ). take k u ++ x) e

  -- digits and nothing, or digits, a point and decimals
  own_whole : (w : ℕ) → digits_of 6 (take k u) ≡ Some w → drop k u ≡ [] → thousandths (w * 1000) ≡ u
  unfolding fraction_text
  own_whole w hw ht =
      let d = told 6 (take k u) w hw in
      let v : w * 1000 / 1000 ≡ w = omega arith in
      let z : w * 1000 % 1000 ≡ 0 = omega arith in
      let none : fraction_text 3 0 ≡ [] = refl in
      let whole = whole_short (take k u) [] p d.all_digits d.filled d.short other (rw (cut [] ht) at short) in
      ap₂ (λ (a b : List ℕ). a ++ b) (ap (whole_text 6) (v ∙ sym d.value) ∙ whole) (ap (fraction_text 3) z ∙ none) ∙ sym (cut [] ht)

  own_both : (w f m c : ℕ) (t : List ℕ) → digits_of 6 (take k u) ≡ Some w → drop k u ≡ c ∷ t → digits_of 3 t ≡ Some m → f ≡ m * 10 ^ (3 - length t) → f < 1000
      → thousandths (w * 1000 + f) ≡ u
  own_both w f m c t hw ht hm hf low =
      let d = told 6 (take k u) w hw in
      let x = told 3 t m hm in
      let v : (w * 1000 + f) / 1000 ≡ w = omega arith in
      let z : (w * 1000 + f) % 1000 ≡ f = omega arith in
      let point = cut (46 ∷ t) (ht ∙ ap (λ (b : ℕ). b ∷ t) (at_first 46 u c t ht)) in
      let s = rw point at short in
      let whole = whole_short (take k u) (46 ∷ t) p d.all_digits d.filled d.short other s in
      let q = short_digits p false (take k u) (46 ∷ t) d.all_digits s in
      let decimals = fraction_own t 46 x.all_digits x.filled x.short (step q.0 false 46 t q.1).rest in
      let g = z ∙ hf ∙ ap (λ (y : ℕ). y * 10 ^ (3 - length t)) (sym x.value) in
      ap₂ (λ (a b : List ℕ). a ++ b) (ap (whole_text 6) (v ∙ sym d.value) ∙ whole) (ap (fraction_text 3) g ∙ decimals) ∙ sym point

  own : (w f : ℕ) (t : List ℕ) → digits_of 6 (take k u) ≡ Some w → drop k u ≡ t → fraction_of t ≡ Some f
      → thousandths (w * 1000 + f) ≡ u
  unfolding fraction_of scaled
  own w f [] hw ht hf =
      let e : f ≡ 0 = cc in
      let z : w * 1000 + f ≡ w * 1000 = omega arith in
      rw z (own_whole w hw ht)
  own w f (c ∷ t) hw ht hf = go (digits_of 3 t) refl hf
    where
      go : (x : Option ℕ) → digits_of 3 t ≡ x → scaled t x ≡ Some f → thousandths (w * 1000 + f) ≡ u
      go (Some m) hm e = let g : f ≡ m * 10 ^ (3 - length t) = cc in own_both w f m c t hw ht hm g (fraction_below (c ∷ t) f hf)
      go None hm e = let z : ◌≡◌ {A = ℕ} 0 1 = cc in absurd (omega arith)

  unsigned_own : (n : ℕ) → unsigned_of u ≡ Some n → thousandths n ≡ u
  unfolding unsigned_of joined_digits
  unsigned_own n e = go (digits_of 6 (take k u)) (fraction_of (drop k u)) refl refl e
    where
      go : (d f : Option ℕ) → digits_of 6 (take k u) ≡ d → fraction_of (drop k u) ≡ f → joined_digits d f ≡ Some n → thousandths n ≡ u
      go (Some w) (Some f) hw hf j = let z : n ≡ w * 1000 + f = cc in rw z (own w f (drop k u) hw refl hf)
      go (Some w) None hw hf j = let z : ◌≡◌ {A = ℕ} 0 1 = cc in absurd (omega arith)
      go None f hw hf j = let z : ◌≡◌ {A = ℕ} 0 1 = cc in absurd (omega arith)

-- ---- with its sign

plus_own : (p : ℕ) (s : List ℕ) (v : ℤ) (d : Option ℕ) → is_digit p ≡ false → unsigned_of s ≡ d → plus d ≡ Some v → short_from p false s ≡ true → number_text v ≡ s
unfolding plus number_text sign_text
plus_own p s v (Some n) o u e h = let f : v ≡ pos n = cc in rw f (unsigned_own s p o h n u)
plus_own p s v None o u e h = let z : ◌≡◌ {A = ℕ} 0 1 = cc in absurd (omega arith)

-- no sign stands before a zero alone
minus_zero : (s : List ℕ) → whole_text 6 0 ++ fraction_text 3 0 ≡ s → short_from 45 false s ≡ true → ⊥
unfolding whole_text digits_text fraction_text short_from zero_fits
minus_zero s e h = false≢true (rw (sym e) at h)

minus_own : (s : List ℕ) (v : ℤ) (d : Option ℕ) → unsigned_of s ≡ d → minus d ≡ Some v → short_from 45 false s ≡ true → number_text v ≡ 45 ∷ s
unfolding minus number_text sign_text
minus_own s v (Some zero) u e h = absurd (minus_zero s (unsigned_own s 45 refl h 0 u) h)
minus_own s v (Some (suc n)) u e h =
    let f : v ≡ negsuc n = cc in
    rw f (ap (λ (t : List ℕ). 45 ∷ t) (unsigned_own s 45 refl h (suc n) u))
minus_own s v None u e h = let z : ◌≡◌ {A = ℕ} 0 1 = cc in absurd (omega arith)

-- behind any byte that is no digit, as in a list behind its separator
pub own_past : (p : ℕ) (s : List ℕ) (v : ℤ) → is_digit p ≡ false → number_of s ≡ Some v → short_from p false s ≡ true → number_text v ≡ s
unfolding number_of
own_past p [] v o e h = plus_own p [] v (unsigned_of []) o refl e h
own_past p (b ∷ s) v o e h =
    by_eq b 45
    (λ q. minus_own s v (unsigned_of s) refl (rw (eq-eqb b 45 q) at e) (rw q at (step p false b s h).rest) ∙ ap (λ (x : ℕ). x ∷ s) (sym q))
    (λ n. plus_own p (b ∷ s) v (unsigned_of (b ∷ s)) o refl (rw (ne_eqb b 45 n) at e) h)

-- THE THEOREM: a number that stands in its shortest form is its own text
pub number_own : (s : List ℕ) (v : ℤ) → number_of s ≡ Some v → are_short s ≡ true → number_text v ≡ s
unfolding are_short
number_own s v e h = own_past 0 s v refl e h

-- ---- a list is short where its parts are: the first part, and what follows a separator c

module _ (c : ℕ) (other : is_digit c ≡ false) (no_point : eqb c 46 ≡ false) (rest : List ℕ) where
  next_same : (p : ℕ) (dec : Bool) (a : List ℕ) → zero_fits p dec (get_or (a ++ c ∷ rest) 0 0) ≡ zero_fits p dec (get_or a 0 0)
  unfolding zero_fits
  next_same p dec [] = rw (other, no_point)
  next_same p dec (x ∷ a) = refl

  pub short_cut : (p : ℕ) (dec : Bool) (a : List ℕ) → short_from p dec (a ++ c ∷ rest) ≡ true
      → (short_from p dec a ≡ true) × ((e : Bool) × (short_from c (decimals_past c e) rest ≡ true))
  unfolding short_from
  short_cut p dec [] h = (refl, (dec, (step p dec c rest h).rest))
  short_cut p dec (b ∷ a) h =
      let first = not (eqb b 32) && (not (eqb b 48) || zero_fits p dec (get_or (a ++ c ∷ rest) 0 0)) in
      let o = and_parts first (short_from b (decimals_past b dec) (a ++ c ∷ rest)) h in
      let r = short_cut b (decimals_past b dec) a o.1 in
      let f : (not (eqb b 32) && (not (eqb b 48) || zero_fits p dec (get_or a 0 0))) ≡ true = rw (next_same p dec a) at o.0 in
      (rw f r.0, r.1)

-- `;` and `,` end the decimals
pub mark_ends : (e : Bool) → (decimals_past 59 e ≡ false) × (decimals_past 44 e ≡ false)
mark_ends true = (refl, refl)
mark_ends false = (refl, refl)
