-- The labels seen, as the bits of one number: what its bits say, how many are set, and one more of them.
-- Assumes nothing.
use Prim.Native.Nat.{ℕ, zero, suc, ◌+◌, ◌*◌, ◌/◌, ◌%◌, ◌^◌, ◌<◌}
use Rattle.text_lines.proofs.Standing.{standing_length, standing_at, standing_old, standing_new, trues_missing}
use Rattle.text_lines.specs.Entries.{Entry, stands, standing, missing}
use Rattle.text_lines.specs.Mask.{bit, mask_of, trues}
use Rattle.text.specs.Lists.{count}
use lib.Count.{ones, ones_step}
use lib.ListN.{length, get_or, set}
use lib.Pow.{pow-lt}
use mathlib.Core.Bool.{Bool, true, false}
use mathlib.Core.List.{List, [], ◌∷◌, ◌++◌}
use mathlib.Core.Path.{◌≡◌, refl, sym, ap, ap₂, ◌∙◌}
use native.Mathlib.Nat.{not-suc-le-zero, le_of_suc-le-suc, pow-succ', div-one, zero-div, div-div-eq-div-mul, mod-eq_of_lt, one-mul}
use native.Mathlib.Omega.{arith}

low : (b : Bool) (m : ℕ) → (bit b + 2 * m) % 2 ≡ bit b
low true m = omega arith
low false m = omega arith

high : (b : Bool) (m : ℕ) → (bit b + 2 * m) / 2 ≡ m
high true m = omega arith
high false m = omega arith

-- as many bits are set as there are true
pub ones_mask : (bs : List Bool) → ones (mask_of bs) ≡ trues bs
unfolding mask_of count ones
ones_mask [] = refl
ones_mask (b ∷ bs) =
    ones_step (bit b + 2 * mask_of bs) ∙ ap₂ (λ (x y : ℕ). x + ones y) (low b (mask_of bs)) (high b (mask_of bs)) ∙ ap (λ (y : ℕ). bit b + y) (ones_mask bs)

-- halving k + 1 times is halving, and then k times
halves : (n k : ℕ) → n / 2 ^ suc k ≡ n / 2 / 2 ^ k
halves n k = ap (λ (m : ℕ). n / m) (pow-succ' 2 k) ∙ sym (div-div-eq-div-mul n 2 (2 ^ k))

pub mask_bit : (bs : List Bool) (k : ℕ) → mask_of bs / 2 ^ k % 2 ≡ bit (get_or bs k false)
unfolding mask_of
mask_bit [] k = rw zero-div
mask_bit (b ∷ bs) zero = ap (λ (n : ℕ). n % 2) (div-one (bit b + 2 * mask_of bs)) ∙ low b (mask_of bs)
mask_bit (b ∷ bs) (suc k) =
    ap (λ (n : ℕ). n % 2) (halves (bit b + 2 * mask_of bs) k ∙ ap (λ (n : ℕ). n / 2 ^ k) (high b (mask_of bs))) ∙ mask_bit bs k

-- a bit that is off is set by adding it
pub mask_set : (bs : List Bool) (k : ℕ) → k < length bs → get_or bs k false ≡ false → mask_of (set bs k true) ≡ mask_of bs + 2 ^ k
unfolding mask_of
mask_set [] k h e = absurd (not-suc-le-zero h)
mask_set (b ∷ bs) zero h e = rw e (omega arith)
mask_set (b ∷ bs) (suc k) h e = rw (mask_set bs k (le_of_suc-le-suc h) e, pow-succ' 2 k) (omega arith)

pub mask_less : (bs : List Bool) → mask_of bs < 2 ^ length bs
unfolding mask_of
mask_less [] = omega arith
mask_less (b ∷ bs) = rw (pow-succ' 2 (length bs)) (step b (mask_less bs))
  where
    step : (c : Bool) → mask_of bs < 2 ^ length bs → bit c + 2 * mask_of bs < 2 * 2 ^ length bs
    step true h = omega arith
    step false h = omega arith

-- `1 << k`, as the machine states it
pub one_shl : (k : ℕ) → k < 32 → 1 * 2 ^ k % 2 ^ 32 ≡ 2 ^ k
one_shl k h = ap (λ (n : ℕ). n % 2 ^ 32) (one-mul (2 ^ k)) ∙ mod-eq_of_lt (pow-lt h)

-- ---- the fields of a layout, from 1, whose bits are from the lowest

module _ (ls : List (List ℕ)) (es : List Entry) where
  pub seen_bit : (j : ℕ) → j < length ls → mask_of (standing 1 ls es) / 2 ^ j % 2 ≡ bit (stands (suc j) es)
  seen_bit j h =
      let n : 1 + j ≡ suc j = omega arith in
      mask_bit (standing 1 ls es) j ∙ ap bit (standing_at 1 ls es j h ∙ ap (λ (m : ℕ). stands m es) n)

  pub seen_less : mask_of (standing 1 ls es) < 2 ^ length ls
  seen_less = rw (sym (standing_length 1 ls es)) (mask_less (standing 1 ls es))

  pub seen_missing : missing 1 ls es + ones (mask_of (standing 1 ls es)) ≡ length ls
  seen_missing = ap (λ (n : ℕ). missing 1 ls es + n) (ones_mask (standing 1 ls es)) ∙ trues_missing 1 ls es

  -- one more, of a field that was seen, and of one that was not
  pub seen_old : (e : Entry) → stands e.at es ≡ true → mask_of (standing 1 ls (es ++ e ∷ [])) ≡ mask_of (standing 1 ls es)
  seen_old e h = ap mask_of (standing_old 1 ls es e h)

  pub seen_new : (e : Entry) (j : ℕ) → j < length ls → e.at ≡ suc j → stands e.at es ≡ false
      → mask_of (standing 1 ls (es ++ e ∷ [])) ≡ mask_of (standing 1 ls es) + 2 ^ j
  seen_new e j h k t =
      let n : e.at ≡ 1 + j = omega (arith, k) in
      ap mask_of (standing_new 1 ls es e j n)
      ∙ mask_set (standing 1 ls es) j (omega (arith, h, standing_length 1 ls es)) (standing_at 1 ls es j h ∙ ap (λ (m : ℕ). stands m es) (sym n) ∙ t)
