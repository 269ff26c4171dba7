-- A sum of octets that wraps at 256, octet by octet. Assumes nothing.
use Prim.Native.Nat.{ℕ, ◌+◌, ◌%◌, ◌≤◌, ◌<◌}
use Rattle.text.proofs.Cuts.{drop_step}
use Rattle.transfer.specs.Collect.{total, checksum}
use lib.ListN.{length, get_or, drop, drop_of_length-le}
use mathlib.Core.List.{List}
use mathlib.Core.Path.{◌≡◌, ap}
use native.Mathlib.Omega.{arith}

module _ (s : List ℕ) where
  total_step : (k : ℕ) → k < length s → total (drop k s) ≡ get_or s k 0 + total (drop (k + 1) s)
  unfolding total
  total_step k h = ap total (drop_step s k h)

  total_end : (k : ℕ) → length s ≤ k → total (drop k s) ≡ 0
  unfolding total
  total_end k h = ap total (drop_of_length-le s h)

  -- the sum so far, with what is left, is the whole's
  abbrev pub Summing : ℕ → ℕ → Type 0
  Summing k sum = (sum + total (drop k s)) % 256 ≡ checksum s

  pub sum_begins : Summing 0 0
  unfolding checksum
  sum_begins = omega arith

  pub sum_goes : (k sum b r : ℕ) → k < length s → b ≡ get_or s k 0 → r ≡ (sum + b) % 256 → Summing k sum → Summing (k + 1) r
  sum_goes k sum b r h e f i = omega (arith, total_step k h)

  pub sum_ends : (k sum : ℕ) → length s ≤ k → sum ≤ 255 → Summing k sum → sum ≡ checksum s
  sum_ends k sum h l i = omega (arith, total_end k h)
