-- An arm of a table of labels as the entry at its number. Assumes nothing.
use Prim.Native.Nat.{ℕ, zero, suc, ◌+◌, ◌≤◌, ◌<◌}
use Rattle.layout_label.specs.Labels.{label_of}
use Rattle.layout_label.specs.declared.Label.{Label}
use Rattle.layout.specs.Layouts.{labels_of, label_at}
use Rattle.layout.specs.declared.Layout.{Layout}
use Rattle.text.proofs.Tables.{Missed, above, off}
use lib.ListN.{length, get_or, get_or-append}
use mathlib.Core.List.{List, [], ◌∷◌, ◌++◌}
use mathlib.Core.Logic.{◌⊎◌, inl, inr}
use mathlib.Core.Path.{◌≡◌, refl, sym, ◌∙◌}
use native.Mathlib.Omega.{arith}

-- two tables that begin alike, at a number of their beginning
pub alike : (t u v : List (List ℕ)) (k : ℕ) → k < length t → get_or (t ++ u) k [] ≡ get_or (t ++ v) k []
alike t u v k h = get_or-append t u [] k h ∙ sym (get_or-append t v [] k h)

-- a table and what was put behind it, at a number of neither or of the table
pub short_of : (t u : List (List ℕ)) (k : ℕ) → (length t ≤ k → length t + length u ≤ k) → get_or t k [] ≡ get_or (t ++ u) k []
short_of [] u k h = off u k [] (let i = h (omega arith) in omega arith)
short_of (x ∷ t) u zero h = refl
short_of (x ∷ t) u (suc k) h = short_of t u k (λ j. let i = h (omega arith) in omega arith)

-- the arm `_` after arms that were ranges: below the first of them, or past the last
pub since : {P Q : Type 0} {k n : ℕ} → P ⊎ Q → (P → k < 1) → (Q → n ≤ k) → 1 ≤ k → n ≤ k
since (inl p) f g h = let i = f p in omega arith
since (inr q) f g h = g q

module _ {r : Label} where
  -- the label found otherwise: at the number of an arm, or in the table of a layout
  pub found : {a b : List ℕ} → a ≡ b → r ≡ label_of a → r ≡ label_of b
  found e m = rw (sym e) m

  -- the arm of the number n
  pub arm : (f : ℕ → List ℕ) {k n : ℕ} → k ≡ n → r ≡ label_of (f n) → r ≡ label_of (f k)
  arm f e m = rw e m

  -- the arm `_` of a part of a table, after arms for `from` and the n - 1 numbers behind it
  pub last_arm : (f : ℕ → List ℕ) (from n k : ℕ) → Missed from n k → from ≤ k → k ≤ from + n → r ≡ label_of (f (from + n)) → r ≡ label_of (f k)
  last_arm f from n k m h j = arm f (omega (arith, above from n k m h))

  -- the arm `_` after arms for all numbers of a table, of which the last n had arms of their own
  pub no_arm_at : (l : Layout) (from n k : ℕ) → Missed from n k → from + n ≡ suc (length (labels_of l)) → (1 ≤ k → from ≤ k)
      → r ≡ label_of [] → r ≡ label_of (label_at l k)
  unfolding label_at
  no_arm_at l from n zero m e h = found refl
  no_arm_at l from n (suc k) m e h = found (off (labels_of l) k [] (omega (arith, above from n (suc k) m (h (omega arith)))))
