-- Zero: no bit of an `i32` is set exactly where it is zero, and what the test tells. Assumes nothing.
use Prim.Native.Nat.{suc, ◌^◌, ◌-◌}
use Rattle.text.proofs.Tests.{Tells, told, eqb_tells}
use borrow.Author.Tests.{ne_eqb}
use lib.Dec.{eqb}
use lib.IntN.{ℤ, pos, negsuc, nat_abs}
use mathlib.Core.Path.{◌≡◌, refl, sym, ap, ◌∙◌}
use mir.Syntax.{w32}
use mir.Val.{SFits, of_z}
use native.Mathlib.Omega.{arith}

pub zero_bits : (v : ℤ) → SFits w32 v → eqb (of_z w32 v) 0 ≡ eqb (nat_abs v) 0
zero_bits (pos n) h = refl
zero_bits (negsuc n) h =
    ne_eqb (2 ^ 32 - suc n) 0 (λ e. omega (arith, e, h.sfits)) ∙ sym (ne_eqb (suc n) 0 (λ e. omega (arith, e)))

pub zero_tells : (v : ℤ) → Tells (eqb (nat_abs v) 0) (v ≡ pos 0)
zero_tells (pos n) = told (eqb_tells n 0) (λ e. ap pos e) (λ e. ap nat_abs e)
zero_tells (negsuc n) = told (eqb_tells (suc n) 0) (λ e. absurd (omega (arith, e))) (λ e. ap nat_abs e)
