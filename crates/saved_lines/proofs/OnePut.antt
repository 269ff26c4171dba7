-- The ways through the writers of one line: its key, its amount, its letter, and the whole line. Assumes nothing.
use Prim.Native.Nat.{ℕ, ◌+◌, ◌-◌, ◌≤◌, ◌<◌}
use Rattle.saved_lines.proofs.Putting.{key_size, value_size}
use Rattle.saved_lines.specs.Values.{key_text, zero_amount, amount_text, letter_text, value_text, next_text}
use Rattle.saved_lines.specs.declared.Key.{Key}
use Rattle.saved_lines.specs.Values.{Next, Line, Done}
use Rattle.saved_lines.specs.declared.Sort.{Sort}
use Rattle.text.proofs.Runs.{puts, puts_of, puts_none, then, same_puts}
use Rattle.text.specs.Puts.{limit, Puts}
use Rattle.text_keyline.proofs.Putting.{line_put}
use Rattle.value_name.specs.Names.{sequence_text}
use borrow.Author.Tests.{lt-ltb, le-ltb, eq-eqb, ne_eqb}
use lib.ListN.{length}
use lib.Seq.{sets}
use mathlib.Core.List.{List, [], ◌∷◌}
use mathlib.Core.Path.{◌≡◌, refl}
use native.Mathlib.Omega.{arith}

module _ (l : List ℕ) (at v r : ℕ) (m : List ℕ) where
  -- an amount below 0 is put as `-` and its digits
  pub under_put : (a : ℕ) (l₁ : List ℕ) → v < zero_amount → (a ≡ at + 1) × (l₁ ≡ sets l at (45 ∷ [])) → Puts l₁ a (sequence_text (zero_amount - v)) r m
      → Puts l at (amount_text v) r m
  unfolding amount_text
  under_put a l₁ h p q =
      let digits = sequence_text (zero_amount - v) in
      let put : Puts l at (45 ∷ digits) r m =
      same_puts {l = l} {at = at} (45 ∷ digits) refl (then {l = l} {at = at} (puts_of {t = 45 ∷ []} 1 refl p) (puts {t = digits} q)) in
      rw (lt-ltb v zero_amount h) put

  -- and any other as its digits
  pub over_put : zero_amount ≤ v → Puts l at (sequence_text (v - zero_amount)) r m → Puts l at (amount_text v) r m
  unfolding amount_text
  over_put h p = rw (le-ltb v zero_amount h) p

  pub market_put : v ≡ 0 → (r ≡ at + 1) × (m ≡ sets l at (77 ∷ [])) → Puts l at (letter_text v) r m
  unfolding letter_text
  market_put e p = rw (eq-eqb v 0 e) p

  pub mfrr_put : (v ≡ 0 → ⊥) → (r ≡ at + 1) × (m ≡ sets l at (70 ∷ [])) → Puts l at (letter_text v) r m
  unfolding letter_text
  mfrr_put n p = rw (ne_eqb v 0 n) p

-- ---- a line

-- the front of a key's room fits where eight bytes do
pub key_fits : (k : Key) (at : ℕ) (front : List ℕ) → front ≡ key_text k → at + 8 < limit → at + length front < limit
key_fits k at front e h = rw e (omega (arith, key_size k, h))

module _ (x : Next) (k : Key) (sort : Sort) (lo hi : ℕ) (told : x ≡ Line k sort lo hi) (v : ℕ) where
  module _ (l : List ℕ) (at a : ℕ) (l₁ : List ℕ) (key : Puts l at (key_text k) a l₁) where
    -- after the key there is room for the value
    pub value_fits : at + 20 < limit → a + 11 < limit
    value_fits h = omega (arith, h, key.0, key_size k)

    module _ (b : ℕ) (l₂ : List ℕ) (value : Puts l₁ a (value_text sort v) b l₂) where
      -- and after the value for the end
      pub end_fits : at + 20 < limit → b + 1 < limit
      end_fits h = omega (arith, h, key.0, key_size k, value.0, value_size sort v)

      pub next_put : (r : ℕ) (m : List ℕ) → (r ≡ b + 1) × (m ≡ sets l₂ b (10 ∷ [])) → Puts l at (next_text x v) r m
      next_put r m e = rw told (line_put (key_text k) (value_text sort v) l at a l₁ b l₂ r m key value e)

-- where no line comes nothing is put
pub over_none : (x : Next) (v : ℕ) (l : List ℕ) (at : ℕ) → x ≡ Done → Puts l at (next_text x v) at l
over_none x v l at e = rw e (same_puts [] refl (puts_none l at))
