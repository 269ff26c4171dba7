-- A part of a list that is read where it stands: each way through the code comes to what `specs/Parts.antt` says of the part. Assumes nothing.
use Rattle.std.specs.Prelude.{None, Option, Some}
use Prim.Native.Nat.{ℕ, min, ◌+◌, ◌-◌, ◌*◌, ◌^◌, ◌≤◌, ◌<◌}
use Rattle.value_number.proofs.Bodies.{body_byte, body_none, body_some, body_on, body_length, drop_body, run_body, lead_body}
use Rattle.value_number.proofs.Bodies.{end_over, end_step, trim_body, end_blanks}
use Rattle.value_number.proofs.Laws.{fraction_none, thousandths, number_minus, number_plus}
use Rattle.value_number.proofs.Leads.{lead_refused, lead_other, lead_taken, run_is}
use Rattle.value_number.specs.Number.{scaled, fraction_of, joined_digits, unsigned_of, plus, minus, number_of}
use Rattle.value_number.specs.Parts.{ended, part_end, part_number, is_of_number, part_body, with_sign, number_at}
use Rattle.value_number.specs.declared.NumberAt.{NumberAt}
use Rattle.text.proofs.Cuts.{drop_step, upto_take, upto_length, upto_all}
use Rattle.text.proofs.Fronts.{run_all, run_front, run_open, run_line, run_more}
use Rattle.text.proofs.Numerals.{refused_empty, refused_long, refused_other, taken, told}
use Rattle.text.proofs.Tests.{by_test, by_le, by_eq, or_parts}
use Rattle.text.specs.Bytes.{is, upto, all, is_digit, is_blank, first_of, run_of, trim}
use Rattle.text.specs.Digits.{number_in, digits_of, lead_of}
use Rattle.text.specs.declared.digits.Led.{Led}
use borrow.Author.Tests.{eq-eqb, ne_eqb, eqb-true, eqb-false}
use lib.Dec.{eqb}
use lib.IntN.{ℤ, pos, neg_ℤ}
use lib.ListN.{length, get_or, take, drop, length-drop, get_or-eq_default}
use lib.Seq.{length-take-le, take_all, get_or-drop, drop-drop}
use mathlib.Core.Bool.{Bool, true, false, ◌||◌, cond}
use mathlib.Core.List.{List, ◌∷◌}
use mathlib.Core.Path.{◌≡◌, refl, sym, ap, ◌∙◌}
use native.Mathlib.Nat.{add-zero}
use native.Mathlib.Omega.{arith}

-- ---- a sign, and where it ended

abbrev pub signed_by : Bool → ℕ → ℤ
signed_by minus n = cond minus (neg_ℤ (pos n)) (pos n)

none_ended : (m : Bool) (d : Option ℕ) (e : ℕ) → None ≡ d → None ≡ ended (with_sign m d) e
unfolding ended with_sign plus minus
none_ended true d e h = rw (← h)
none_ended false d e h = rw (← h)

some_ended : (m : Bool) (d : Option ℕ) (n e : ℕ) (v : ℤ) → Some n ≡ d → v ≡ signed_by m n → number_at v e ≡ ended (with_sign m d) e
unfolding ended with_sign plus minus
some_ended true d n e v h k = rw (← h, k)
some_ended false d n e v h k = rw (← h, k)

-- ---- what follows a number

abbrev pub close_of : ℕ → List ℕ → ℕ → ℤ → Option NumberAt
close_of sep s at v = cond (all is_blank (upto (is sep) (drop at s))) (number_at v (part_end sep s at)) None

-- whatever it is that is read, where the text up to there is it alone, and nothing where there is more
closed : (sep : ℕ) (s : List ℕ) (at q : ℕ) (m : Bool) (d : Option ℕ) (n : ℕ) (v : ℤ) (r : Option NumberAt) → r ≡ close_of sep s q v
    → v ≡ signed_by m n
    → part_end sep s q ≡ part_end sep s at
    → (all is_blank (upto (is sep) (drop q s)) ≡ true → Some n ≡ d)
    → (all is_blank (upto (is sep) (drop q s)) ≡ false → None ≡ d)
    → r ≡ ended (with_sign m d) (part_end sep s at)
closed sep s at q m d n v r e k z alone more =
    by_test (all is_blank (upto (is sep) (drop q s)))
    (λ t. e ∙ rw (t, z) (some_ended m d n (part_end sep s at) v (alone t) k))
    (λ t. e ∙ rw t (none_ended m d (part_end sep s at) (more t)))

-- a byte that is not 0 stands within the text
byte_inside : (s : List ℕ) (i b : ℕ) → (0 ≡ b → ⊥) → eqb (get_or s i 0) b ≡ true → i < length s
byte_inside s i b n e =
    by_le (length s) i (λ h. absurd (n (sym (get_or-eq_default s 0 {n = i} h) ∙ eqb-true _ _ e))) (λ h. h)

dark : (sep : ℕ) → is_of_number sep ≡ false → is_blank sep ≡ false
dark sep other = (or_parts (is_digit sep || eqb sep 46 || eqb sep 45) (is_blank sep) other).1

module _ (sep : ℕ) (other : is_of_number sep ≡ false) (s : List ℕ) (at e : ℕ) (inside : at ≤ length s) (ee : e ≡ at + run_of is_blank (drop at s)) where
  at_end : get_or (drop at s) (run_of is_blank (drop at s)) 0 ≡ get_or s e 0
  at_end = get_or-drop at s (run_of is_blank (drop at s)) 0 ∙ ap (λ (k : ℕ). get_or s k 0) (sym ee)

  pub close_other : (v : ℤ) → e < length s → (get_or s e 0 ≡ sep → ⊥) → None ≡ close_of sep s at v
  close_other v h n =
      rw (run_more is_blank sep (dark sep other) (run_of is_blank (drop at s)) (drop at s) refl (omega (arith, length-drop at s)) (λ q. n (sym at_end ∙ q)))

  blanks_only : (e < length s → get_or s e 0 ≡ sep) → upto (is sep) (drop at s) ≡ take (run_of is_blank (drop at s)) (drop at s)
  blanks_only f =
      let t = drop at s in
      let r = run_of is_blank t in
      by_le (length s) e
      (λ h. let full : r ≡ length t = omega (arith, length-drop at s) in
      upto_all (is sep) t (run_open is_blank sep (dark sep other) t full) ∙ sym (take_all r t (omega arith)))
      (λ h. (run_line is_blank sep (dark sep other) r t refl (omega (arith, length-drop at s)) (at_end ∙ f h)).0)

  pub close_here : (v : ℤ) → (e < length s → get_or s e 0 ≡ sep) → number_at v e ≡ close_of sep s at v
  close_here v f =
      let t = drop at s in
      let b = blanks_only f in
      let z : e ≡ part_end sep s at = omega (arith, ap length b, length-take-le (run_of is_blank t) t (omega arith)) in
      rw (b, run_front is_blank (run_of is_blank t) t refl) (ap (number_at v) (z ∙ ap (λ (l : List ℕ). at + length l) b))

-- ---- k digits from a place on, and what the body has behind them

module _ (sep : ℕ) (other : is_of_number sep ≡ false) (s : List ℕ) (at : ℕ) (inside : at ≤ length s) (k : ℕ) (run : k ≡ run_of is_digit (drop at s)) where
  digits_inside : at + k ≤ length s
  digits_inside = omega (arith, length-drop at s)

  digits_end : part_end sep s (at + k) ≡ part_end sep s at
  digits_end = end_over sep other is_digit (λ b h. rw h) s at k digits_inside (run_front is_digit k (drop at s) run)

  behind : drop k (part_body sep (drop at s)) ≡ part_body sep (drop (at + k) s)
  behind = rw (run, drop_body sep other (drop at s)) (ap (part_body sep) (drop-drop (run_of is_digit (drop at s)) at s))

  behind_length : length (part_body sep (drop at s)) ≡ k + length (part_body sep (drop (at + k) s))
  behind_length =
      let r = run_of is_digit (drop at s) in
      rw run (body_length sep other (drop at s) ∙ ap (λ (l : List ℕ). r + length (part_body sep l)) (drop-drop r at s))

-- ---- the whole number

module _ (sep : ℕ) (other : is_of_number sep ≡ false) (s : List ℕ) (at : ℕ) (inside : at ≤ length s) (w : Led) (led : w ≡ lead_of 7 (drop at s)) where
  led_body : w ≡ lead_of 7 (part_body sep (drop at s))
  led_body = led ∙ lead_body sep other (drop at s) 7

  pub whole_refused : (eqb w.count 0 || eqb w.count 7) ≡ true → (m : Bool) (e : ℕ)
      → None ≡ ended (with_sign m (unsigned_of (part_body sep (drop at s)))) e
  whole_refused t m e = none_ended m _ e (lead_refused (part_body sep (drop at s)) w led_body t)

  module _ (t : (eqb w.count 0 || eqb w.count 7) ≡ false) where
    whole_run : w.count ≡ run_of is_digit (drop at s)
    whole_run = run_is (drop at s) w led t

    pub whole_inside : at + w.count ≤ length s
    whole_inside = digits_inside sep other s at inside w.count whole_run

    whole_end : part_end sep s (at + w.count) ≡ part_end sep s at
    whole_end = digits_end sep other s at inside w.count whole_run

    whole_length : length (part_body sep (drop at s)) ≡ w.count + length (part_body sep (drop (at + w.count) s))
    whole_length = behind_length sep other s at inside w.count whole_run

    byte_behind : w.count < length (part_body sep (drop at s)) → get_or (part_body sep (drop at s)) w.count 0 ≡ get_or s (at + w.count) 0
    byte_behind h = body_byte sep (drop at s) w.count h ∙ get_or-drop at s w.count 0

    -- no point: nothing follows, or it is no number
    whole_alone : all is_blank (upto (is sep) (drop (at + w.count) s)) ≡ true → Some (w.value * 1000) ≡ unsigned_of (part_body sep (drop at s))
    unfolding joined_digits
    whole_alone b =
        let l : w.count ≡ length (part_body sep (drop at s)) = omega (arith, whole_length, body_none sep (drop (at + w.count) s) b) in
        ap Some (sym (add-zero (w.value * 1000)))
        ∙ lead_taken (part_body sep (drop at s)) w led_body t (λ h. absurd (omega arith)) (Some 0) (fraction_none (part_body sep (drop at s)) w.count l)

    pub whole_closed : (m : Bool) (v : ℤ) (r : Option NumberAt) → eqb (get_or s (at + w.count) 0) 46 ≡ false → r ≡ close_of sep s (at + w.count) v
        → v ≡ signed_by m (w.value * 1000)
        → r ≡ ended (with_sign m (unsigned_of (part_body sep (drop at s)))) (part_end sep s at)
    whole_closed m v r n e k =
        closed sep s at (at + w.count) m (unsigned_of (part_body sep (drop at s))) (w.value * 1000) v r e k whole_end whole_alone
        (λ b. let l : w.count < length (part_body sep (drop at s)) = omega (arith, whole_length, body_some sep (drop (at + w.count) s) b) in
        lead_other (part_body sep (drop at s)) w led_body t l (λ q. eqb-false _ _ n (sym (byte_behind l) ∙ q)))

    -- a point, and decimals
    module _ (point : eqb (get_or s (at + w.count) 0) 46 ≡ true) where
      pub point_inside : at + w.count < length s
      point_inside = byte_inside s (at + w.count) 46 (λ z. omega arith) point

      is_point : get_or s (at + w.count) 0 ≡ 46
      is_point = eqb-true _ _ point

      fraction_is : drop w.count (part_body sep (drop at s)) ≡ 46 ∷ part_body sep (drop (at + w.count + 1) s)
      fraction_is =
          behind sep other s at inside w.count whole_run ∙ ap (part_body sep) (drop_step s (at + w.count) point_inside)
          ∙ rw is_point (body_on sep other 46 (drop (at + w.count + 1) s) refl refl)

      pub whole_pointed : (m : Bool) (r : Option NumberAt)
          → r ≡ ended (with_sign m (joined_digits (Some w.value) (fraction_of (46 ∷ part_body sep (drop (at + w.count + 1) s)))))
          (part_end sep s (at + w.count + 1))
          → r ≡ ended (with_sign m (unsigned_of (part_body sep (drop at s)))) (part_end sep s at)
      whole_pointed m r e =
          let z = end_step sep other s (at + w.count) point_inside (rw is_point) ∙ whole_end in
          let f = fraction_of (46 ∷ part_body sep (drop (at + w.count + 1) s)) in
          e ∙ rw (z, lead_taken (part_body sep (drop at s)) w led_body t (λ h. byte_behind h ∙ is_point) f (ap fraction_of (sym fraction_is)))

-- ---- the decimals

module _ (sep : ℕ) (other : is_of_number sep ≡ false) (s : List ℕ) (at : ℕ) (inside : at ≤ length s) (f : Led) (led : f ≡ lead_of 4 (drop at s)) where
  few_count : f.count ≡ min 4 (run_of is_digit (part_body sep (drop at s)))
  few_count = ap (λ (x : Led). x.count) (led ∙ lead_body sep other (drop at s) 4)

  few_value : f.value ≡ number_in (take f.count (part_body sep (drop at s)))
  few_value =
      ap (λ (x : Led). x.value) (led ∙ lead_body sep other (drop at s) 4) ∙ ap (λ (k : ℕ). number_in (take k (part_body sep (drop at s)))) (sym few_count)

  -- more than digits
  more_refused : (run_of is_digit (part_body sep (drop at s)) ≡ length (part_body sep (drop at s)) → ⊥) → None ≡ digits_of 3 (part_body sep (drop at s))
  more_refused n = refused_other 3 (part_body sep (drop at s)) (sym (run_all is_digit (part_body sep (drop at s))) ∙ ne_eqb _ _ n)

  few_refused : (eqb f.count 0 || eqb f.count 4) ≡ true → None ≡ digits_of 3 (part_body sep (drop at s))
  few_refused t =
      by_test (eqb f.count 0)
      (λ e. by_eq (length (part_body sep (drop at s))) 0 (λ z. refused_empty 3 (part_body sep (drop at s)) z)
      (λ z. more_refused (λ q. z (omega (arith, few_count, eqb-true f.count 0 e)))))
      (λ e. refused_long 3 (part_body sep (drop at s)) (omega (arith, few_count, eqb-true f.count 4 (rw e at t))))

  pub decimals_refused : (eqb f.count 0 || eqb f.count 4) ≡ true → (m : Bool) (whole e : ℕ)
      → None ≡ ended (with_sign m (joined_digits (Some whole) (fraction_of (46 ∷ part_body sep (drop at s))))) e
  unfolding joined_digits fraction_of scaled
  decimals_refused t m whole e =
      none_ended m _ e (ap (λ (d : Option ℕ). joined_digits (Some whole) (scaled (part_body sep (drop at s)) d)) (few_refused t))

  module _ (t : (eqb f.count 0 || eqb f.count 4) ≡ false) where
    pub few_some : (1 ≤ f.count) × (f.count ≤ 3)
    few_some =
        let o = or_parts _ _ t in
        let none : f.count ≡ 0 → ⊥ = eqb-false _ _ o.0 in
        let four : f.count ≡ 4 → ⊥ = eqb-false _ _ o.1 in
        (omega (arith, few_count), omega (arith, few_count))

    few_run : f.count ≡ run_of is_digit (drop at s)
    few_run = omega (arith, few_count, few_some, run_body sep other (drop at s))

    pub few_inside : at + f.count ≤ length s
    few_inside = digits_inside sep other s at inside f.count few_run

    few_length : length (part_body sep (drop at s)) ≡ f.count + length (part_body sep (drop (at + f.count) s))
    few_length = behind_length sep other s at inside f.count few_run

    pub few_below : f.value * 10 ^ (3 - f.count) < 1000
    few_below =
        let b = part_body sep (drop at s) in
        let l = length-take-le f.count b (omega (arith, few_length)) in
        let digits = run_front is_digit f.count b (few_run ∙ sym (run_body sep other (drop at s))) in
        let read = ap Some few_value ∙ taken 3 (take f.count b) (omega (arith, l, few_some)) (omega (arith, l, few_some)) digits in
        thousandths f.value f.count (rw l at (told 3 (take f.count b) f.value (sym read)).low) few_some.1

    -- nothing follows them
    few_alone : all is_blank (upto (is sep) (drop (at + f.count) s)) ≡ true → (whole : ℕ)
        → Some (whole * 1000 + f.value * 10 ^ (3 - f.count)) ≡ joined_digits (Some whole) (fraction_of (46 ∷ part_body sep (drop at s)))
    unfolding joined_digits fraction_of scaled
    few_alone a whole =
        let b = part_body sep (drop at s) in
        let l : length b ≡ f.count = omega (arith, few_length, body_none sep (drop (at + f.count) s) a) in
        let digits : all is_digit b ≡ true = sym (run_all is_digit b) ∙ eq-eqb _ _ (run_body sep other (drop at s) ∙ sym few_run ∙ sym l) in
        let v : f.value ≡ number_in b = few_value ∙ ap number_in (take_all f.count b (omega arith)) in
        let read : Some f.value ≡ digits_of 3 b = ap Some v ∙ taken 3 b (omega (arith, few_some)) (omega (arith, few_some)) digits in
        ap (λ (k : ℕ). Some (whole * 1000 + f.value * 10 ^ (3 - k))) (sym l) ∙ ap (λ (d : Option ℕ). joined_digits (Some whole) (scaled b d)) read

    pub decimals_closed : (m : Bool) (whole n : ℕ) (v : ℤ) (r : Option NumberAt) → r ≡ close_of sep s (at + f.count) v
        → n ≡ whole * 1000 + f.value * 10 ^ (3 - f.count)
        → v ≡ signed_by m n
        → r ≡ ended (with_sign m (joined_digits (Some whole) (fraction_of (46 ∷ part_body sep (drop at s))))) (part_end sep s at)
    unfolding joined_digits fraction_of scaled
    decimals_closed m whole n v r e q k =
        closed sep s at (at + f.count) m (joined_digits (Some whole) (fraction_of (46 ∷ part_body sep (drop at s)))) n v r e k
        (digits_end sep other s at inside f.count few_run) (λ a. ap Some q ∙ few_alone a whole)
        (λ a. ap (λ (d : Option ℕ). joined_digits (Some whole) (scaled (part_body sep (drop at s)) d))
        (more_refused (λ z. omega (arith, few_length, body_some sep (drop (at + f.count) s) a, few_run, run_body sep other (drop at s)))))

-- ---- the part

module _ (sep : ℕ) (other : is_of_number sep ≡ false) (s : List ℕ) (at from : ℕ) (inside : at ≤ length s) (ee : from ≡ at + run_of is_blank (drop at s)) where
  pub blanks_inside : from ≤ length s
  blanks_inside = omega (arith, length-drop at s)

  part_is : ended (number_of (part_body sep (drop from s))) (part_end sep s from) ≡ part_number sep s at
  unfolding part_number
  part_is = rw (trim_body sep other s at from ee, end_blanks sep other s at from ee inside)

  pub part_plus : (r : Option NumberAt) → eqb (get_or s from 0) 45 ≡ false → r ≡ ended (with_sign false (unsigned_of (part_body sep (drop from s)))) (part_end sep s from)
      → r ≡ part_number sep s at
  unfolding with_sign
  part_plus r n e =
      let first : get_or (drop from s) 0 0 ≡ get_or s from 0 = get_or-drop from s 0 0 ∙ ap (λ (k : ℕ). get_or s k 0) (add-zero from) in
      let none : get_or (part_body sep (drop from s)) 0 0 ≡ 45 → ⊥ =
      λ q. by_le 1 (length (part_body sep (drop from s)))
      (λ h. eqb-false _ _ n (sym first ∙ sym (body_byte sep (drop from s) 0 h) ∙ q))
      (λ h. let z : 0 ≡ 45 = sym (get_or-eq_default (part_body sep (drop from s)) 0 {n = 0} (omega arith)) ∙ q in omega arith) in
      e ∙ ap (λ (n : Option ℤ). ended n (part_end sep s from)) (number_plus (part_body sep (drop from s)) none) ∙ part_is

  module _ (sign : eqb (get_or s from 0) 45 ≡ true) where
    pub sign_inside : from < length s
    sign_inside = byte_inside s from 45 (λ z. omega arith) sign

    is_minus : get_or s from 0 ≡ 45
    is_minus = eqb-true _ _ sign

    pub part_minus : (r : Option NumberAt) → r ≡ ended (with_sign true (unsigned_of (part_body sep (drop (from + 1) s)))) (part_end sep s (from + 1))
        → r ≡ part_number sep s at
    unfolding with_sign
    part_minus r e =
        let z = end_step sep other s from sign_inside (rw is_minus) in
        let b : part_body sep (drop from s) ≡ 45 ∷ part_body sep (drop (from + 1) s) =
        ap (part_body sep) (drop_step s from sign_inside) ∙ rw is_minus (body_on sep other 45 (drop (from + 1) s) refl refl) in
        e ∙ rw z (ap (λ (n : Option ℤ). ended n (part_end sep s from)) (number_minus (45 ∷ part_body sep (drop (from + 1) s)) refl ∙ ap number_of (sym b))) ∙ part_is

-- the part that is cut
module _ (sep : ℕ) (s : List ℕ) (at n : ℕ) (nn : n ≡ first_of sep (drop at s)) where
  pub cut_fits : n ≤ length (drop at s)
  cut_fits = omega (arith, upto_length (is sep) (drop at s))

  pub cut_is : (r : Option ℤ) (t : List ℕ) → t ≡ take n (drop at s) → r ≡ number_of (trim t) → ended r (at + n) ≡ part_number sep s at
  unfolding part_number
  cut_is r t e h =
      let p : t ≡ upto (is sep) (drop at s) = e ∙ ap (λ (k : ℕ). take k (drop at s)) nn ∙ sym (upto_take (is sep) (drop at s)) in
      rw (h, p, nn)

-- ---- what is told by a part that was read, and by one that was not

ended_is : (n : Option ℤ) (v : ℤ) (e f : ℕ) → number_at v e ≡ ended n f → (e ≡ f) × (n ≡ Some v)
unfolding ended
ended_is (Some w) v e f q =
    let r : record { number = v; end = e } ≡ record { number = w; end = f } = cc in
    (ap (λ (x : NumberAt). x.end) r, ap (λ (x : NumberAt). Some x.number) (sym r))
ended_is None v e f q = let z : ◌≡◌ {A = ℕ} 0 1 = cc in absurd (omega arith)

ended_bad : (n : Option ℤ) (f : ℕ) → None ≡ ended n f → n ≡ None
unfolding ended
ended_bad (Some w) f q = let z : ◌≡◌ {A = ℕ} 0 1 = cc in absurd (omega arith)
ended_bad None f q = refl

module _ (sep : ℕ) (s : List ℕ) (at : ℕ) where
  pub part_told : (v : ℤ) (e : ℕ) → number_at v e ≡ part_number sep s at → (e ≡ part_end sep s at) × (number_of (trim (upto (is sep) (drop at s))) ≡ Some v)
  unfolding part_number
  part_told v e q = ended_is _ v e _ q

  pub part_none : None ≡ part_number sep s at → number_of (trim (upto (is sep) (drop at s))) ≡ None
  unfolding part_number
  part_none q = ended_bad _ (part_end sep s at) q
