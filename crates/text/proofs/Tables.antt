-- Laws for a `match` on a number against a table. Assumes nothing.
use Prim.Native.Nat.{ℕ, zero, suc, ◌+◌, ◌≤◌}
use Rattle.text.proofs.Tests.{and_parts}
use Rattle.text.specs.Bytes.{all}
use lib.ListN.{length, get_or}
use mathlib.Core.Bool.{Bool, true}
use mathlib.Core.List.{List, [], ◌∷◌}
use mathlib.Core.Path.{◌≡◌, refl}
use native.Mathlib.Omega.{arith}

-- what the arm `_` knows (`c.match.rest`) after arms for from, from + 1, .., n of them
abbrev pub Missed : ℕ → ℕ → ℕ → Type 0
Missed from zero k = Unit
Missed from (suc n) k = Missed from n k × (k ≡ from + n → ⊥)

pub above : (from n k : ℕ) → Missed from n k → from ≤ k → from + n ≤ k
above from zero k m z = omega arith
above from (suc n) k m z = let h = above from n k m.0 z in let ne = m.1 in omega arith

-- past the end of a table
pub off : {A : Type 0} (l : List A) (k : ℕ) (d : A) → length l ≤ k → d ≡ get_or l k d
off [] k d h = refl
off (x ∷ l) zero d h = absurd (omega arith)
off (x ∷ l) (suc k) d h = off l k d (omega arith)

-- a table whose arms begin at 0
pub no_arm : {A : Type 0} (d : A) (l : List A) (k : ℕ) → Missed 0 (length l) k → d ≡ get_or l k d
no_arm d l k m = off l k d (omega (arith, above 0 (length l) k m (omega arith)))

-- a table whose arms begin at 1, with a filler at 0
pub no_entry : {A : Type 0} (d : A) (l : List A) (k : ℕ) → Missed 1 (length l) k → d ≡ get_or (d ∷ l) k d
no_entry d l zero m = refl
no_entry d l (suc k) m = off l k d (omega (arith, above 1 (length l) (suc k) m (omega arith)))

-- a test of the whole table, at one entry
pub all_at : {A : Type 0} (p : A → Bool) (l : List A) (k : ℕ) (d : A) → all p l ≡ true → p d ≡ true → p (get_or l k d) ≡ true
unfolding all
all_at p [] k d h z = z
all_at p (x ∷ l) zero d h z = (and_parts (p x) (all p l) h).0
all_at p (x ∷ l) (suc k) d h z = all_at p l k d (and_parts (p x) (all p l) h).1 z
