-- THE THEOREM: rule 3 says which six h lines a profile has. Assumes nothing.
use Prim.Native.Nat.{ℕ, zero, suc, ◌+◌, ◌<◌}
use Rattle.record.specs.declared.Cell.{Cell}
use Rattle.record_rules.specs.Profiles.{h_line, HLists, Profile}
use Rattle.record_rules.specs.Rules.{only_if, is_full, profiled}
use Rattle.text.proofs.Tests.{told, Tells, ◌and◌, by_test, by_le}
use Rattle.value_ask.proofs.Others.{sized_filled}
use Rattle.value_ask.specs.Values.{is_filled, list_size}
use borrow.Author.Tests.{eq-eqb, eqb-true}
use lib.Dec.{lit≤}
use mathlib.Core.Bool.{Bool, true, false, true≢false}
use mathlib.Core.List.{List}
use mathlib.Core.Path.{◌≡◌, refl, sym, subst, ◌∙◌}
use native.Mathlib.Omega.{arith}

-- `only_if`, used and made
used : (a b : Bool) → only_if a b ≡ true → a ≡ true → b ≡ true
used true b e h = e
used false b e h = absurd (true≢false (sym h))

made : (a b : Bool) → (a ≡ true → b ≡ true) → only_if a b ≡ true
made true b f = f refl
made false b f = refl

module _ (cells : List Cell) where
  -- below a filled line k stands one of four
  abbrev Step : ℕ → Type 0
  Step k = is_filled (h_line cells k) ≡ true → list_size (h_line cells (suc k)) ≡ 4

  abbrev Steps : Type 0
  Steps = (k : ℕ) → k < 5 → Step k

  step_tells : (k : ℕ) → Tells (only_if (is_filled (h_line cells k)) (is_full (h_line cells (suc k)))) (Step k)
  step_tells k =
      let below = h_line cells (suc k) in (
        λ e h. eqb-true (list_size below) 4 (used (is_filled (h_line cells k)) (is_full below) e h),
        λ f. made (is_filled (h_line cells k)) (is_full below) (λ h. eq-eqb (list_size below) 4 (f h)),
      )

  five : Step 0 → Step 1 → Step 2 → Step 3 → Step 4 → Steps
  five a b c d e zero h = a
  five a b c d e (suc zero) h = b
  five a b c d e (suc (suc zero)) h = c
  five a b c d e (suc (suc (suc zero))) h = d
  five a b c d e (suc (suc (suc (suc zero)))) h = e
  five a b c d e (suc (suc (suc (suc (suc n))))) h = absurd (omega (arith, h))

  -- so all below a filled one have four
  all_below : Steps → (k m : ℕ) → k < m → m < 6 → is_filled (h_line cells k) ≡ true → list_size (h_line cells m) ≡ 4
  all_below step k zero lt few h = absurd (omega (arith, lt))
  all_below step k (suc n) lt few h =
      by_le n k
      (λ q. step n (omega (arith, few)) (subst (λ (j : ℕ). is_filled (h_line cells j) ≡ true) (omega (arith, q, lt)) h))
      (λ q.
      let four = all_below step k n q (omega (arith, few)) h in
      step n (omega (arith, few)) (sized_filled (h_line cells n) (omega (arith, four))))

  -- the lines from k on, of which n are left, where all above are blank
  from_line : Steps → HLists cells → (n k : ℕ) → n + k ≡ 6 → ((j : ℕ) → j < k → is_filled (h_line cells j) ≡ false) → Profile cells
  from_line step lists zero k e blank =
      record {
        blanks = k;
        at_most_all = omega (arith, e);
        blank_above = blank;
        first_filled = λ h. absurd (omega (arith, e, h));
        full_below = λ j a b. absurd (omega (arith, e, a, b));
      }
  from_line step lists (suc n) k e blank =
      by_test (is_filled (h_line cells k))
      (λ filled.
      record {
        blanks = k;
        at_most_all = omega (arith, e);
        blank_above = blank;
        first_filled = λ h. lists k h filled;
        full_below = λ j a b. all_below step k j a b filled;
      })
      (λ unfilled.
      from_line step lists n (suc k) (omega (arith, e))
      (λ j h.
      by_le k j
      (λ q. subst (λ (i : ℕ). is_filled (h_line cells i) ≡ false) (omega (arith, q, h)) unfilled)
      (λ q. blank j q)))

  -- and back: a filled line is not above the first filled one
  from_profile : Profile cells → Steps
  from_profile p k few h =
      by_le p.blanks k
      (λ q. p.full_below (suc k) (omega (arith, q)) (omega (arith, few)))
      (λ q. absurd (true≢false (sym h ∙ p.blank_above k q)))

pub profile_exactly : (cells : List Cell) → HLists cells → Tells (profiled cells) (Profile cells)
unfolding profiled
profile_exactly cells lists =
    told
    (step_tells cells 0 and step_tells cells 1 and step_tells cells 2 and step_tells cells 3 and step_tells cells 4)
    (λ p.
    let step = five cells p.0.0.0.0 p.0.0.0.1 p.0.0.1 p.0.1 p.1 in
    from_line cells step lists 6 0 refl (λ j h. absurd (omega (arith, h))))
    (λ p.
    let step = from_profile cells p in
    ((((step 0 (lit≤ tt), step 1 (lit≤ tt)), step 2 (lit≤ tt)), step 3 (lit≤ tt)), step 4 (lit≤ tt)))
