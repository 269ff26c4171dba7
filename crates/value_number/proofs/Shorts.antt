-- Numbers in their shortest form: one step along the text. Assumes nothing.
use Prim.Native.Nat.{ℕ, ◌+◌, ◌-◌, ◌≤◌, ◌<◌}
use Rattle.value_number.specs.Number.{before_at, zero_fits, decimals_past, short_from}
use Rattle.text.proofs.Cuts.{drop_step}
use Rattle.text.proofs.Tests.{by_eq}
use borrow.Author.Tests.{eq-eqb, ne_eqb}
use lib.Dec.{eqb}
use lib.ListN.{length, get_or, drop, drop_of_length-le}
use lib.Seq.{get_or-drop}
use mathlib.Core.Bool.{Bool, true, false, not, ◌&&◌, ◌||◌}
use mathlib.Core.List.{List}
use mathlib.Core.Path.{◌≡◌, sym, ◌∙◌}
use native.Mathlib.Nat.{add-zero}
use native.Mathlib.Omega.{arith}

-- ---- one step along the text

pub short_end : (s : List ℕ) (i prior : ℕ) (decimals : Bool) → length s ≤ i → true ≡ short_from prior decimals (drop i s)
unfolding short_from
short_end s i prior decimals h = rw (drop_of_length-le s {i = i} h)

module _ (s : List ℕ) (i prior : ℕ) (decimals : Bool) (h : i < length s) where
  short_step : short_from prior decimals (drop i s)
      ≡ (not (eqb (get_or s i 0) 32)
      && (not (eqb (get_or s i 0) 48) || zero_fits prior decimals (get_or s (i + 1) 0))
      && short_from (get_or s i 0) (decimals_past (get_or s i 0) decimals) (drop (i + 1) s))
  unfolding short_from
  short_step = rw (drop_step s i h, get_or-drop (i + 1) s 0 0, add-zero)

  pub short_blank : get_or s i 0 ≡ 32 → false ≡ short_from prior decimals (drop i s)
  short_blank e = sym (short_step ∙ rw (eq-eqb (get_or s i 0) 32 e))

  pub short_bad : get_or s i 0 ≡ 48 → zero_fits prior decimals (get_or s (i + 1) 0) ≡ false → false ≡ short_from prior decimals (drop i s)
  short_bad e f = sym (short_step ∙ rw (e, f))

  pub short_on : (get_or s i 0 ≡ 32 → ⊥) → (get_or s i 0 ≡ 48 → zero_fits prior decimals (get_or s (i + 1) 0) ≡ true)
      → short_from prior decimals (drop i s) ≡ short_from (before_at (i + 1) s) (decimals_past (get_or s i 0) decimals) (drop (i + 1) s)
  short_on n f =
      let z : eqb (i + 1) 0 ≡ false = ne_eqb (i + 1) 0 (λ e. omega arith) in
      let m : i + 1 - 1 ≡ i = omega arith in
      short_step
      ∙ by_eq (get_or s i 0) 48 (λ e. rw (ne_eqb _ _ n, eq-eqb _ _ e, f e, z, m)) (λ e. rw (ne_eqb _ _ n, ne_eqb _ _ e, z, m))
