-- V MAX and V MIN with the space or without it: what the code answers, what is written is read back, and what is read is one of the two.
-- Assumes nothing.
use Rattle.std.specs.Prelude.{Option, Some}
use Prim.Native.Nat.{ℕ, ◌≤◌}
use Rattle.text.proofs.Tables.{all_at}
use Rattle.text.proofs.Tests.{by_test, or_parts}
use Rattle.text.specs.Bytes.{bytes, same, all}
use Rattle.value_word.proofs.RoundTrip.{word_back, word_range, word_is}
use Rattle.value_word.specs.Names.{w_v_max, w_v_min}
use Rattle.value_word.specs.Words.{command_words, mode_words, setting_words, words, word, word_in, volt_in, is_joined}
use borrow.Author.Tests.{not-true}
use mathlib.Core.Bool.{Bool, true, false, not}
use mathlib.Core.List.{List, []}
use mathlib.Core.Path.{◌≡◌, refl, sym, ◌∙◌}
use native.Mathlib.Omega.{arith}

-- ---- what the code answers

module _ (s : List ℕ) where
  pub is_vmax : {b : Bool} → b ≡ same (bytes "VMAX") s → b ≡ true → Some w_v_max ≡ volt_in s
  unfolding volt_in
  is_vmax e y = rw (sym e ∙ y)

  pub joined_max : {b : Bool} → b ≡ same (bytes "VMAX") s → b ≡ true → true ≡ is_joined s
  unfolding is_joined
  joined_max e y = rw (sym e ∙ y)

  module _ {b : Bool} (e : b ≡ same (bytes "VMAX") s) (n : b ≡ false) where
    pub is_vmin : {d : Bool} → d ≡ same (bytes "VMIN") s → d ≡ true → Some w_v_min ≡ volt_in s
    unfolding volt_in
    is_vmin f y = rw (sym e ∙ n, sym f ∙ y)

    pub is_spaced : {d : Bool} → d ≡ same (bytes "VMIN") s → d ≡ false → (r : Option ℕ) → r ≡ word_in w_v_max w_v_min s → r ≡ volt_in s
    unfolding volt_in
    is_spaced f m r h = rw (sym e ∙ n, sym f ∙ m) h

    pub joined_min : {d : Bool} → d ≡ same (bytes "VMIN") s → d ≡ is_joined s
    unfolding is_joined
    joined_min f = rw (sym e ∙ n) f

-- ---- a text with the space is read as it was before

spaced : (s : List ℕ) → is_joined s ≡ false → volt_in s ≡ word_in w_v_max w_v_min s
unfolding volt_in is_joined
spaced s n = let p = or_parts (same (bytes "VMAX") s) (same (bytes "VMIN") s) n in rw (p.0, p.1)

-- no word of the table lacks its space
not_joined : (w : ℕ) → is_joined (word w) ≡ false
unfolding word words command_words mode_words setting_words all is_joined same
not_joined w = not-true (is_joined (word w)) (all_at (λ t. not (is_joined t)) words w [] refl refl)

-- what is written is read back
pub volt_back : (w : ℕ) → w_v_max ≤ w → w ≤ w_v_min → volt_in (word w) ≡ Some w
volt_back w a b = spaced (word w) (not_joined w) ∙ word_back w_v_max w_v_min w (omega arith) a b (omega arith)

-- what is read is one of the two
pub volt_range : (s : List ℕ) (w : ℕ) → volt_in s ≡ Some w → (w_v_max ≤ w) × (w ≤ w_v_min)
unfolding volt_in
volt_range s w e =
    by_test (same (bytes "VMAX") s)
    (λ y. let f : Some w_v_max ≡ Some w = rw y at e in let j : w_v_max ≡ w = cc in (omega arith, omega arith))
    (λ n.
    by_test (same (bytes "VMIN") s)
    (λ y. let f : Some w_v_min ≡ Some w = rw (n, y) at e in let j : w_v_min ≡ w = cc in (omega arith, omega arith))
    (λ m. word_range w_v_max w_v_min s w (rw (n, m) at e)))

-- and with the space it is that one's text
pub volt_is : (s : List ℕ) (w : ℕ) → is_joined s ≡ false → volt_in s ≡ Some w → word w ≡ s
volt_is s w n e = word_is w_v_max w_v_min s w (sym (spaced s n) ∙ e)
