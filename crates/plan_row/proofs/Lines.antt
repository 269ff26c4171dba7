-- The ways through the reader of a number's line: after its key a line should be a run of digits, and then LF (10).
-- Assumes nothing.
use Rattle.std.specs.Prelude.{None, Option, Some}
use Prim.Native.Nat.{ℕ, suc, ◌+◌, ◌-◌, min, ◌≤◌, ◌<◌}
use Rattle.plan_row.specs.Kept.{numbered_of, numbered}
use Rattle.text_keyline.proofs.Lines.{line_value, line_open, line_more, line_run, line_place, line_ends}
use Rattle.text_keyline.proofs.Values.{other_key, no_line}
use Rattle.text_keyline.specs.Keylines.{line_of, value_in, whole_in, ranged, if_line, number_at}
use Rattle.value_name.specs.Names.{sequence_of}
use Rattle.text.proofs.Cuts.{tail, front_count, starts_length}
use Rattle.text.proofs.Fronts.{run_front, run_holds, run_within}
use Rattle.text.proofs.Numerals.{refused_empty, refused_long, refused_other, taken, number_some}
use Rattle.text.proofs.Tests.{by_le, by_eq, or_parts, within_tells}
use Rattle.text.specs.Bytes.{starts, is, any, all, run_of, is_digit}
use Rattle.text.specs.Digits.{number_from, number_in, digits_of, lead_of}
use Rattle.text.specs.declared.digits.Led.{Led}
use borrow.Author.Tests.{eq-eqb, ne_eqb, lt-ltb, le-ltb, lt-leb, eqb-true, eqb-false, ltb-false, not-false}
use lib.Dec.{eqb, leb, ltb}
use lib.ListN.{length, get_or, take, drop, length-drop}
use lib.Seq.{get_or-drop, get_or-take}
use mathlib.Core.Bool.{Bool, true, false, ◌&&◌, ◌||◌, not, cond, and-false, false≢true}
use mathlib.Core.List.{List, [], ◌∷◌}
use mathlib.Core.Path.{◌≡◌, refl, sym, ap, ◌∙◌}
use native.Mathlib.Omega.{arith}

-- ---- a number

-- what no digits write is no number
refused_whole : (most : ℕ) (v : List ℕ) → None ≡ digits_of 10 v → whole_in 1 most v ≡ None
unfolding whole_in sequence_of
refused_whole most v n = rw (sym n) (either (ltb 1 (length v) && is 48 (get_or v 0 0)))
  where
    either : (t : Bool) → ranged 1 most (cond t None None) ≡ None
    either true = refl
    either false = refl

whole_zero : (most : ℕ) (t : List ℕ) → 1 ≤ length t → get_or t 0 0 ≡ 48 → whole_in 1 most t ≡ None
unfolding whole_in sequence_of digits_of all number_from
whole_zero most [] h e = absurd (omega arith)
whole_zero most (x ∷ []) h e = rw e
whole_zero most (x ∷ y ∷ t) h e = rw (lt-ltb 1 (suc (suc (length t))) (omega arith), eq-eqb x 48 e)

whole_much : (most : ℕ) (t : List ℕ) → most < number_in t → whole_in 1 most t ≡ None
unfolding whole_in sequence_of digits_of
whole_much most t h = either (ltb 1 (length t) && is 48 (get_or t 0 0)) (leb 1 (length t) && leb (length t) 10 && all is_digit t)
  where
    either : (z w : Bool) → ranged 1 most (cond z None (cond w (Some (number_in t)) None)) ≡ None
    either true w = refl
    either false false = refl
    either false true = simp (lt-leb _ _ h, and-false)

whole_is : (most : ℕ) (t : List ℕ) → all is_digit t ≡ true → 1 ≤ length t → length t ≤ 10 → (get_or t 0 0 ≡ 48 → ⊥) → number_in t ≤ most
    → whole_in 1 most t ≡ Some (number_in t)
unfolding whole_in sequence_of
whole_is most t d h k n l =
    let z : (ltb 1 (length t) && is 48 (get_or t 0 0)) ≡ false = rw (ne_eqb _ 48 n) (and-false (ltb 1 (length t))) in
    rw (z, sym (taken 10 t h k d), (within_tells 1 most (number_in t)).1 (number_some t h d n, l))

if_none : (l : Option ℕ) → if_line l None ≡ None
if_none (Some e) = refl
if_none None = refl

module _ (key : List ℕ) (most : ℕ) (s : List ℕ) where
  -- the answer for the line, by the number
  answered : (d : Option ℕ) → d ≡ number_at key most s → numbered_of d s ≡ numbered_of (number_at key most s) s
  answered d e = ap (λ (x : Option ℕ). numbered_of x s) e

  module _ (b : Bool) (told : b ≡ starts key s) where
    pub number_key : b ≡ false → None ≡ numbered_of (number_at key most s) s
    number_key n = answered None (no_line key most s (line_of key s) refl (sym (other_key key s b told n)))

    module _ (clean : any (is 10) key ≡ false) (yes : b ≡ true) (r : Led) (led : r ≡ lead_of 10 (take (length s - length key) (drop (length key) s))) where
      begins : starts key s ≡ true
      begins = sym told ∙ yes

      abbrev left : List ℕ
      left = drop (length key) s

      count_is : r.count ≡ min 10 (run_of is_digit left)
      count_is = ap (λ (x : Led). x.count) led ∙ ap (λ (l : List ℕ). min 10 (run_of is_digit l)) (tail s (length key))

      value_is : r.value ≡ number_in (take r.count left)
      value_is =
          ap (λ (x : Led). x.value) led
          ∙ ap (λ (l : List ℕ). number_in (take (min 10 (run_of is_digit l)) l)) (tail s (length key))
          ∙ ap (λ (k : ℕ). number_in (take k left)) (sym count_is)

      -- the whole run was read
      whole_run : r.count ≡ run_of is_digit left → r.count ≡ run_of is_digit (take (length s - length key) (drop (length key) s))
      whole_run e = e ∙ ap (λ (l : List ℕ). run_of is_digit l) (sym (tail s (length key)))

      pub number_place : length key + r.count ≤ length s
      number_place = omega (arith, count_is, length-drop (length key) s, starts_length key s begins)

      pub number_open : length key + r.count ≡ length s → None ≡ numbered_of (number_at key most s) s
      number_open e =
          let run : r.count ≡ run_of is_digit left = omega (arith, count_is, length-drop (length key) s) in
          answered None (no_line key most s (line_of key s) refl (sym (line_open key s clean begins is_digit refl r.count (whole_run run) e)))

      module _ (n : length key + r.count ≡ length s → ⊥) where
        pub number_inside : length key + r.count < length s
        number_inside = omega (arith, n, number_place)

        abbrev refused_number : Bool
        refused_number = not (eqb (get_or s (length key + r.count) 0) 10) || eqb (get_or s (length key) 0) 48 || eqb r.count 0 || ltb most r.value

        no_number : whole_in 1 most (value_in key s) ≡ None → None ≡ numbered_of (number_at key most s) s
        unfolding number_at
        no_number e = answered None (rw e (sym (if_none (line_of key s))))

        -- a digit more than may be, or another byte
        number_other : (get_or s (length key + r.count) 0 ≡ 10 → ⊥) → whole_in 1 most (value_in key s) ≡ None
        number_other g =
            refused_whole most (value_in key s)
            (by_eq r.count (run_of is_digit left)
            (λ run. refused_other 10 (value_in key s) (line_more key s clean begins is_digit refl r.count (whole_run run) n g))
            (λ more. refused_long 10 (value_in key s) (omega (
              arith,
              more,
              count_is,
              run_within is_digit 10 refl left,
              ap length (line_value key s clean begins),
            ))))

        module _ (g : get_or s (length key + r.count) 0 ≡ 10) where
          abbrev digits : List ℕ
          digits = take r.count left

          run_is : r.count ≡ run_of is_digit left
          run_is =
              by_eq r.count (run_of is_digit left) (λ e. e)
              (λ more. absurd (false≢true (sym (ap is_digit (get_or-drop (length key) s r.count 0 ∙ g))
              ∙ run_holds is_digit r.count left (omega (arith, more, count_is)))))

          value_at : value_in key s ≡ digits
          value_at = line_run key s clean begins is_digit refl r.count (whole_run run_is) n g

          digits_length : length digits ≡ r.count
          digits_length = sym (front_count left r.count (omega (arith, count_is)))

          first_at : 1 ≤ r.count → get_or digits 0 0 ≡ get_or s (length key) 0
          first_at h =
              let z : length key + 0 ≡ length key = omega arith in
              get_or-take r.count left 0 0 h ∙ get_or-drop (length key) s 0 0 ∙ ap (λ (k : ℕ). get_or s k 0) z

          number_bad : refused_number ≡ true → whole_in 1 most digits ≡ None
          number_bad t =
              by_le 1 r.count
              (λ h. by_eq (get_or s (length key) 0) 48 (λ e. whole_zero most digits (omega (arith, h, digits_length)) (first_at h ∙ e))
              (λ o. by_le r.value most
              (λ l. absurd (false≢true (sym (rw (eq-eqb _ 10 g, ne_eqb _ 48 o, ne_eqb r.count 0 (λ e. omega arith), le-ltb most r.value l)) ∙ t)))
              (λ m. whole_much most digits (omega (arith, m, value_is)))))
              (λ h. refused_whole most digits (refused_empty 10 digits (omega (arith, h, digits_length))))

          number_good : refused_number ≡ false → whole_in 1 most digits ≡ Some r.value
          number_good t =
              let o =
              or_parts (not (eqb (get_or s (length key + r.count) 0) 10) || eqb (get_or s (length key) 0) 48 || eqb r.count 0) (ltb most r.value) t in
              let p = or_parts (not (eqb (get_or s (length key + r.count) 0) 10) || eqb (get_or s (length key) 0) 48) (eqb r.count 0) o.0 in
              let q = or_parts (not (eqb (get_or s (length key + r.count) 0) 10)) (eqb (get_or s (length key) 0) 48) p.0 in
              let z = eqb-false r.count 0 p.1 in
              let h : 1 ≤ r.count = omega (arith, z) in
              whole_is most digits (run_front is_digit r.count left run_is) (omega (arith, h, digits_length)) (omega (arith, count_is, digits_length))
              (λ e. eqb-false _ 48 q.1 (sym (first_at h) ∙ e)) (omega (arith, value_is, ltb-false most r.value o.1))
              ∙ ap Some (sym value_is)

        pub number_not : refused_number ≡ true → None ≡ numbered_of (number_at key most s) s
        number_not t =
            no_number (by_eq (get_or s (length key + r.count) 0) 10 (λ g. ap (whole_in 1 most) (value_at g) ∙ number_bad g t) number_other)

        pub number_is : refused_number ≡ false → numbered r.value (length key + r.count) ≡ numbered_of (number_at key most s) s
        unfolding number_at
        number_is t =
            let o = or_parts (not (eqb (get_or s (length key + r.count) 0) 10) || eqb (get_or s (length key) 0) 48 || eqb r.count 0) (ltb most r.value) t in
            let p = or_parts (not (eqb (get_or s (length key + r.count) 0) 10) || eqb (get_or s (length key) 0) 48) (eqb r.count 0) o.0 in
            let q = or_parts (not (eqb (get_or s (length key + r.count) 0) 10)) (eqb (get_or s (length key) 0) 48) p.0 in
            let g = eqb-true (get_or s (length key + r.count) 0) 10 (not-false _ q.0) in
            let run = whole_run (run_is g) in
            let ends = line_ends key s clean begins is_digit refl r.count run n g in
            ap (numbered r.value) (line_place key s clean begins is_digit refl r.count run n g)
            ∙ answered (Some r.value)
            (sym (ap (λ (l : Option ℕ). if_line l (whole_in 1 most (value_in key s))) ends ∙ ap (whole_in 1 most) (value_at g) ∙ number_good g t))
