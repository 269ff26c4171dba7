-- A text that is read as an identifier or as a sequence is the number's own text. Assumes nothing.
use Rattle.std.specs.Prelude.{None, Some}
use Prim.Native.Nat.{ℕ}
use Rattle.value_name.proofs.Readers.{sequence_zero}
use Rattle.value_name.proofs.RoundTrip.{took, left}
use Rattle.value_name.specs.Names.{prefix_of, exactly, identifier_of, identifier_text, sequence_of, sequence_text}
use Rattle.value_name.specs.declared.MessageType.{MessageType}
use Rattle.text.proofs.Backs.{read_back, whole_own}
use Rattle.text.proofs.Cuts.{same_true}
use Rattle.text.proofs.Numerals.{told}
use Rattle.text.specs.Bytes.{same, is}
use Rattle.text.specs.Digits.{digits_text, whole_text}
use borrow.Author.Tests.{eqb-true}
use lib.Dec.{eqb, ltb}
use lib.ListN.{length, get_or, take, drop, take-append-drop}
use mathlib.Core.Bool.{◌&&◌}
use mathlib.Core.List.{List, ◌++◌}
use mathlib.Core.Path.{◌≡◌, sym, ap, ap₂, ◌∙◌}
use native.Mathlib.Omega.{arith}

pub identifier_own : (t : MessageType) (s : List ℕ) (n : ℕ) → identifier_of t s ≡ Some n → identifier_text t n ≡ s
unfolding identifier_of identifier_text exactly
identifier_own t s n e =
    let o = took (same (take 3 s) (prefix_of t)) _ n e in
    let q = took (eqb (length (drop 3 s)) 10) _ n o.1 in
    let ten = eqb-true (length (drop 3 s)) 10 q.0 in
    ap₂ (λ (a b : List ℕ). a ++ b)
    (sym (same_true (take 3 s) (prefix_of t) o.0))
    (ap (λ (k : ℕ). digits_text k n) (sym ten) ∙ read_back 10 (drop 3 s) n q.1)
    ∙ take-append-drop 3 s

pub sequence_own : (s : List ℕ) (n : ℕ) → sequence_of s ≡ Some n → sequence_text n ≡ s
unfolding sequence_of
sequence_own s n e =
    let d = told 10 s n (left (ltb 1 (length s) && is 48 (get_or s 0 0)) _ n e) in
    ap (whole_text 9) (sym d.value) ∙ whole_own 9 s d.all_digits d.filled (omega (arith, d.short)) (λ h z. never (sequence_zero s h z ∙ e))
  where
    never : None ≡ Some n → ⊥
    never p = let z : ◌≡◌ {A = ℕ} 0 1 = cc in absurd (omega arith)
