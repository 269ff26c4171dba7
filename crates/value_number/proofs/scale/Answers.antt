use Prim.Native.Nat.{ℕ, ◌-◌, ◌^◌}
use mathlib.Core.Path.{◌≡◌, sym, ap}
use native.Mathlib.Omega.{arith}
use Rattle.value_number.proofs.scale.Goals as goal

-- Each arm is the power at its number.
-- the power at a number that is known
at : (n k : ℕ) → n ≡ k → 10 ^ (3 - k) ≡ 10 ^ (3 - n)
at n k e = ap (λ (m : ℕ). 10 ^ (3 - m)) (sym e)

pub returns-in-0 : goal.returns-in-0
returns-in-0 c = at _ 0 c.in-0.is

pub returns-in-1 : goal.returns-in-1
returns-in-1 c = at _ 1 c.in-1.is

pub returns-in-2 : goal.returns-in-2
returns-in-2 c = at _ 2 c.in-2.is

pub returns-in_default : goal.returns-in_default
returns-in_default c = at _ 3 (omega arith)
