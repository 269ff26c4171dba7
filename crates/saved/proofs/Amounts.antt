-- An amount and its number, both ways. Assumes nothing.
use Prim.Native.Nat.{ℕ, suc, ◌+◌, ◌-◌, ◌≤◌, ◌<◌}
use Rattle.saved.specs.Orders.{raised, lowered}
use Rattle.saved_lines.specs.Values.{zero_amount}
use Rattle.text.proofs.Tests.{by_le, and_parts}
use Rattle.value_bounds.specs.Bounds.{most_amount, is_amount}
use borrow.Author.Tests.{lt-ltb, le-ltb, le-leb, leb-true}
use lib.Dec.{leb}
use lib.IntN.{ℤ, pos, negsuc}
use mathlib.Core.Bool.{true}
use mathlib.Core.Path.{◌≡◌}
use native.Mathlib.Omega.{arith}

-- the number of an amount that can be written
pub record Raised (z : ℤ) : Type 0 where
  pub from : 1 ≤ raised z
  pub to : raised z ≤ 1999999999
  pub back : lowered (raised z) ≡ z

pub amount_raised : (z : ℤ) → is_amount z ≡ true → Raised z
unfolding is_amount lowered
amount_raised (pos n) e =
    let h : n ≤ most_amount = leb-true n most_amount e in
    let m : zero_amount + n - zero_amount ≡ n = omega arith in
    record { from = omega arith; to = omega arith; back = rw (le-ltb (zero_amount + n) zero_amount (omega arith), m) }
amount_raised (negsuc n) e =
    let h : n ≤ most_amount - 1 = leb-true n (most_amount - 1) (and_parts (leb n (most_amount - 1)) true e).0 in
    let m : zero_amount - (zero_amount - suc n) ≡ suc n = omega arith in
    record { from = omega arith; to = omega arith; back = rw (lt-ltb (zero_amount - suc n) zero_amount (omega arith), m) }

-- the amount of a number
pub record Lowered (v : ℕ) : Type 0 where
  pub amount : is_amount (lowered v) ≡ true
  pub back : raised (lowered v) ≡ v

below : (v k : ℕ) → zero_amount - v ≡ suc k → v < zero_amount → 1 ≤ v → Lowered v
unfolding is_amount lowered
below v k e h a =
    let m : zero_amount - suc k ≡ v = omega arith in
    let l : k ≤ most_amount - 1 = omega arith in
    record {
      amount = rw (lt-ltb v zero_amount h, e, le-leb k (most_amount - 1) l);
      back = rw (lt-ltb v zero_amount h, e) m;
    }

pub number_lowered : (v : ℕ) → 1 ≤ v → v ≤ 1999999999 → Lowered v
unfolding is_amount lowered
number_lowered v a b =
    by_le zero_amount v
    (λ h.
    let m : zero_amount + (v - zero_amount) ≡ v = omega arith in
    record {
      amount = rw (le-ltb v zero_amount h) (le-leb (v - zero_amount) most_amount (omega arith));
      back = rw (le-ltb v zero_amount h) m;
    })
    (λ h. below v (zero_amount - v - 1) (omega arith) h a)
