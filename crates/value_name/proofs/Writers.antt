-- An identifier is put as its prefix and its digits. Assumes nothing.
use Prim.Native.Nat.{ℕ, ◌+◌}
use Rattle.text.specs.Puts.{Puts}
use Rattle.value_name.proofs.RoundTrip.{identifier_length}
use Rattle.value_name.specs.Names.{prefix_of, identifier_text}
use Rattle.value_name.specs.declared.MessageType.{MessageType}
use Rattle.text.proofs.Numerals.{length_text}
use Rattle.text.proofs.Runs.{Run, puts, puts_of, then, same_puts}
use Rattle.text.specs.Digits.{digits_text}
use lib.Seq.{sets}
use mathlib.Core.List.{List, ◌++◌}
use mathlib.Core.Path.{◌≡◌, ap}
use native.Mathlib.Omega.{arith}

pub identifier_put : (l : List ℕ) (at : ℕ) (code : List ℕ) (a : ℕ) (l₁ : List ℕ) (t : MessageType) (n r : ℕ) (m : List ℕ) → code ≡ prefix_of t
    → Puts l at code a l₁ → (r ≡ a + 10) × (m ≡ sets l₁ a (digits_text 10 n))
    → (r ≡ at + 13) × (m ≡ sets l at (identifier_text t n))
unfolding identifier_text
identifier_put l at code a l₁ t n r m e p q =
    let w : Run l at (code ++ digits_text 10 n) r m = then (puts {t = code} p) (puts_of {t = digits_text 10 n} 10 (length_text 10 n) q) in
    let f = same_puts (identifier_text t n) (ap (λ (c : List ℕ). c ++ digits_text 10 n) e) w in
    (omega (arith, f.0, identifier_length t n), f.1)
