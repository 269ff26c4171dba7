-- A line is put as its key, its value and its end. Assumes nothing.
use Prim.Native.Nat.{ℕ, ◌+◌}
use Rattle.text_keyline.specs.Keylines.{line_text}
use Rattle.text.proofs.Runs.{puts, puts_of, then, same_puts}
use Rattle.text.specs.Puts.{Puts}
use lib.ListN.{length, length-append}
use lib.Seq.{sets}
use mathlib.Core.List.{List, [], ◌∷◌, ◌++◌}
use mathlib.Core.Path.{◌≡◌, refl}
use native.Mathlib.Omega.{arith}

pub line_put : (key v l : List ℕ) (at a : ℕ) (l₁ : List ℕ) (b : ℕ) (l₂ : List ℕ) (r : ℕ) (m : List ℕ)
    → Puts l at key a l₁ → Puts l₁ a v b l₂ → (r ≡ b + 1) × (m ≡ sets l₂ b (10 ∷ [])) → Puts l at (line_text key v) r m
line_put key v l at a l₁ b l₂ r m p q e =
    same_puts (line_text key v) refl (then (then (puts {t = key} p) (puts {t = v} q)) (puts_of {t = 10 ∷ []} 1 refl e))

-- a line has its key, its value and its end
pub line_length : (key v : List ℕ) → length (line_text key v) ≡ length key + length v + 1
line_length key v = omega (arith, length-append (key ++ v) (10 ∷ []), length-append key v)
