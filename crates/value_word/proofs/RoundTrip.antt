-- A word that is written is read back where it may stand, what is read is a word of those that may, and every word can stand as a value.
-- Assumes nothing.
use Rattle.std.specs.Prelude.{Some}
use Prim.Native.Nat.{ℕ, zero, suc, ◌+◌, ◌-◌, ◌≤◌, ◌<◌}
use Rattle.text.proofs.Cuts.{same_refl, same_true}
use Rattle.text.proofs.Tables.{all_at}
use Rattle.text.proofs.Tests.{by_test, by_le}
use Rattle.text.specs.Bytes.{same, all, skip, skip_end, trim, tidy}
use Rattle.value_word.proofs.Table.{differ}
use Rattle.value_word.specs.Words.{command_words, mode_words, setting_words, words, word, word_from, word_in}
use borrow.Author.Tests.{leb-true}
use lib.Dec.{leb}
use lib.ListN.{length}
use mathlib.Core.Bool.{true, false, false≢true}
use mathlib.Core.List.{List, [], ◌∷◌}
use mathlib.Core.Path.{◌≡◌, refl, sym, ap, ◌∙◌}
use native.Mathlib.Omega.{arith}

-- ---- writing and reading back

from_back : (n i w : ℕ) → i ≤ w → w < i + n → w ≤ 31 → word_from n i (word w) ≡ Some w
unfolding word_from
from_back zero i w a b k = absurd (omega arith)
from_back (suc n) i w a b k =
    by_le w i (λ h. let e : i ≡ w = omega arith in rw (e, same_refl (word w)))
    (λ h. rw (differ i w h k) (from_back n (suc i) w h (omega arith) k))

pub word_back : (first last w : ℕ) → 1 ≤ first → first ≤ w → w ≤ last → last ≤ 31 → word_in first last (word w) ≡ Some w
word_back first last w h a b k = from_back (suc last - first) first w a (omega arith) (omega arith)

-- ---- what is told by a word that was read

record Told (n i : ℕ) (s : List ℕ) (w : ℕ) : Type 0 where
  from : i ≤ w
  before_end : w < i + n
  text : word w ≡ s

told : (n i : ℕ) (s : List ℕ) (w : ℕ) → word_from n i s ≡ Some w → Told n i s w
unfolding word_from
told zero i s w e = let z : ◌≡◌ {A = ℕ} 0 1 = cc in absurd (omega arith)
told (suc n) i s w e =
    by_test (same (word i) s)
    (λ t. let f : Some i ≡ Some w = rw t at e in
    let j : i ≡ w = cc in
    record { from = omega arith; before_end = omega arith; text = ap word (sym j) ∙ same_true (word i) s t })
    (λ t. let r = told n (suc i) s w (rw t at e) in
    record { from = omega (arith, r.from); before_end = omega (arith, r.before_end); text = r.text })

pub word_range : (first last : ℕ) (s : List ℕ) (w : ℕ) → word_in first last s ≡ Some w → (first ≤ w) × (w ≤ last)
word_range first last s w e =
    let r = told (suc last - first) first s w e in
    (r.from, omega (arith, r.from, r.before_end))

pub word_is : (first last : ℕ) (s : List ℕ) (w : ℕ) → word_in first last s ≡ Some w → word w ≡ s
word_is first last s w e = (told (suc last - first) first s w e).text

-- ---- each by a test of the table that antt computes

-- word 0 is empty, and no other word is the same
pub word_some : (w : ℕ) → 1 ≤ w → w ≤ 31 → 1 ≤ length (word w)
unfolding same word words
word_some w h k = go (word w) (differ 0 w h k)
  where
    go : (t : List ℕ) → same [] t ≡ false → 1 ≤ length t
    go [] e = absurd (false≢true (sym e))
    go (x ∷ t) e = omega arith

pub word_short : (w : ℕ) → length (word w) ≤ 20
unfolding word words command_words mode_words setting_words all
word_short w = leb-true (length (word w)) 20 (all_at (λ t. leb (length t) 20) words w [] refl refl)

pub word_tidy : (w : ℕ) → tidy (word w) ≡ true
unfolding word words command_words mode_words setting_words all tidy same trim skip skip_end
word_tidy w = all_at tidy words w [] refl refl
