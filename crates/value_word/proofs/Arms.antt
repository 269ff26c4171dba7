-- An arm of a table of words as the entry at its number. Assumes nothing.
use Prim.Native.Nat.{ℕ}
use Rattle.text.proofs.Tables.{Missed, no_arm}
use Rattle.value_word.specs.Words.{spelling_of}
use Rattle.value_word.specs.declared.Spelling.{Spelling}
use lib.ListN.{length, get_or}
use mathlib.Core.List.{List, []}
use mathlib.Core.Path.{◌≡◌, sym}

module _ {r : Spelling} where
  -- the word found otherwise: in the table of all of them
  pub found : {a b : List ℕ} → a ≡ b → r ≡ spelling_of a → r ≡ spelling_of b
  found e m = rw (sym e) m

  -- the arm of the number n
  pub arm : (t : List (List ℕ)) {k n : ℕ} → k ≡ n → r ≡ spelling_of (get_or t n []) → r ≡ spelling_of (get_or t k [])
  arm t e m = rw e m

  -- the arm `_`: past the table's last number there is no word
  pub no_arm_in : (t : List (List ℕ)) (k : ℕ) → Missed 0 (length t) k → r ≡ spelling_of [] → r ≡ spelling_of (get_or t k [])
  no_arm_in t k m = found (no_arm [] t k m)
