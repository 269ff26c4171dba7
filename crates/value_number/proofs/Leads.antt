-- The digits that a text begins with: as long as the part before the first point, or that part is no whole number. Assumes nothing.
use Rattle.std.specs.Prelude.{None, Option, Some}
use Prim.Native.Nat.{ℕ, min, ◌≤◌, ◌<◌}
use Rattle.value_number.proofs.Laws.{unsigned_at}
use Rattle.value_number.specs.Number.{fraction_of, joined_digits, unsigned_of}
use Rattle.text.proofs.Cuts.{upto_take, upto_length, upto_all}
use Rattle.text.proofs.Fronts.{run_front, run_open, run_line, run_more}
use Rattle.text.proofs.Numerals.{refused_empty, refused_long, refused_other, taken, below, first_past}
use Rattle.text.proofs.Tests.{by_le, by_eq, by_test, or_parts}
use Rattle.text.specs.Bytes.{is, upto, is_digit, first_of, run_of}
use Rattle.text.specs.Digits.{number_in, digits_of, lead_of}
use Rattle.text.specs.declared.digits.Led.{Led}
use borrow.Author.Tests.{eqb-true, eqb-false}
use lib.Dec.{eqb}
use lib.ListN.{length, get_or, take, drop, take-append-drop}
use lib.Seq.{length-take-le}
use mathlib.Core.Bool.{true, false, ◌||◌}
use mathlib.Core.List.{List}
use mathlib.Core.Path.{◌≡◌, refl, sym, ap, ◌∙◌}
use native.Mathlib.Omega.{arith}

module _ (s : List ℕ) where
  run_short : run_of is_digit s ≤ length s
  run_short = omega arith

  -- a point stands past the digits
  run_before : run_of is_digit s ≤ first_of 46 s
  run_before =
      let r = run_of is_digit s in
      let past = ap (first_of 46) (sym (take-append-drop r s)) ∙ first_past 46 (take r s) (drop r s) refl (run_front is_digit r s refl) in
      omega (arith, past, length-take-le r s run_short)

  -- no digit, too many, or another byte behind them
  lead_none : 0 ≡ run_of is_digit s → None ≡ digits_of 6 (upto (is 46) s)
  lead_none r =
      by_le (length s) 0 (λ e. refused_empty 6 (upto (is 46) s) (omega (arith, upto_length (is 46) s)))
      (λ h. by_eq (get_or s 0 0) 46
      (λ e. refused_empty 6 (upto (is 46) s) (ap length (run_line is_digit 46 refl 0 s r h e).0))
      (λ e. refused_other 6 (upto (is 46) s) (run_more is_digit 46 refl 0 s r h e)))

  lead_long : 7 ≤ run_of is_digit s → None ≡ digits_of 6 (upto (is 46) s)
  lead_long h = refused_long 6 (upto (is 46) s) (omega (arith, run_before))

  refused : None ≡ digits_of 6 (upto (is 46) s) → None ≡ unsigned_of s
  unfolding joined_digits
  refused e = unsigned_at s (first_of 46 s) None (fraction_of (drop (first_of 46 s) s)) refl (e ∙ ap (digits_of 6) (upto_take (is 46) s)) refl

  -- what `lead` says of at most seven
  module _ (w : Led) (led : w ≡ lead_of 7 s) where
    count_is : w.count ≡ min 7 (run_of is_digit s)
    count_is = ap (λ (x : Led). x.count) led

    pub lead_refused : (eqb w.count 0 || eqb w.count 7) ≡ true → None ≡ unsigned_of s
    lead_refused t =
        by_test (eqb w.count 0) (λ e. refused (lead_none (omega (arith, count_is, eqb-true w.count 0 e))))
        (λ e. refused (lead_long (omega (arith, count_is, eqb-true w.count 7 (rw e at t)))))

    -- one to six digits
    module _ (t : (eqb w.count 0 || eqb w.count 7) ≡ false) where
      pub some_digits : (1 ≤ w.count) × (w.count ≤ 6)
      some_digits =
          let o = or_parts _ _ t in
          let none : w.count ≡ 0 → ⊥ = eqb-false _ _ o.0 in
          let seven : w.count ≡ 7 → ⊥ = eqb-false _ _ o.1 in
          (omega (arith, count_is), omega (arith, count_is))

      pub run_is : w.count ≡ run_of is_digit s
      run_is = omega (arith, count_is, some_digits)

      pub count_short : w.count ≤ length s
      count_short = omega (arith, run_is, run_short)

      pub lead_other : w.count < length s → (get_or s w.count 0 ≡ 46 → ⊥) → None ≡ unsigned_of s
      lead_other h n = refused (refused_other 6 (upto (is 46) s) (run_more is_digit 46 refl w.count s run_is h n))

      whole_read : Some w.value ≡ digits_of 6 (take w.count s)
      whole_read =
          let n = length-take-le w.count s count_short in
          let v : w.value ≡ number_in (take w.count s) = ap (λ (x : Led). x.value) led ∙ ap (λ (k : ℕ). number_in (take k s)) (sym count_is) in
          ap Some v ∙ taken 6 (take w.count s) (omega (arith, n, some_digits)) (omega (arith, n, some_digits)) (run_front is_digit w.count s run_is)

      pub whole_below : w.value < 1000000
      whole_below = below 6 (take w.count s) w.value (sym whole_read)

      -- nothing follows them, or a point
      module _ (point : w.count < length s → get_or s w.count 0 ≡ 46) where
        at_point : w.count ≡ first_of 46 s
        at_point =
            by_le (length s) w.count
            (λ h. omega (arith, ap length (upto_all (is 46) s (run_open is_digit 46 refl s (omega (arith, run_is, run_short)))), run_is, run_short))
            (λ h. omega (arith, ap length (run_line is_digit 46 refl w.count s run_is h (point h)).0, length-take-le w.count s count_short))

        pub lead_taken : (f : Option ℕ) → f ≡ fraction_of (drop w.count s) → joined_digits (Some w.value) f ≡ unsigned_of s
        lead_taken f e = unsigned_at s w.count (Some w.value) f at_point whole_read e
