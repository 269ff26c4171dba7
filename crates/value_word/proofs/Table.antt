-- The table of the words: its three parts, and what is told by tests that antt computes over it. Assumes nothing.
use Prim.Native.Nat.{ℕ, zero, suc, ◌+◌, ◌-◌, ◌≤◌, ◌<◌}
use Rattle.text.proofs.Tables.{off}
use Rattle.text.proofs.Tests.{and_parts}
use Rattle.text.specs.Bytes.{same, all}
use Rattle.value_word.specs.Words.{command_words, mode_words, setting_words, words, word}
use borrow.Author.Tests.{not-true}
use lib.ListN.{length, get_or, get_or-append}
use lib.Seq.{get_or-append-add}
use mathlib.Core.Bool.{Bool, true, false, not, ◌&&◌}
use mathlib.Core.List.{List, [], ◌∷◌, ◌++◌}
use mathlib.Core.Path.{◌≡◌, refl, sym, ap, ◌∙◌}
use native.Mathlib.Omega.{arith}

-- ---- its parts

pub command_is : (w : ℕ) → 1 ≤ w → w ≤ 12 → get_or command_words (w - 1) [] ≡ word w
unfolding word words command_words
command_is w h k =
    let e : suc (w - 1) ≡ w = omega arith in
    sym (get_or-append command_words (mode_words ++ setting_words) [] (w - 1) (omega arith)) ∙ ap word e

pub mode_is : (w : ℕ) → 13 ≤ w → w ≤ 22 → get_or mode_words (w - 13) [] ≡ word w
unfolding word words command_words mode_words
mode_is w h k =
    let e : suc (12 + (w - 13)) ≡ w = omega arith in
    sym (get_or-append mode_words setting_words [] (w - 13) (omega arith))
    ∙ sym (get_or-append-add command_words (mode_words ++ setting_words) (w - 13) []) ∙ ap word e

pub setting_is : (w : ℕ) → 23 ≤ w → w ≤ 31 → get_or setting_words (w - 23) [] ≡ word w
unfolding word words command_words mode_words setting_words
setting_is w h k =
    let e : suc (12 + (10 + (w - 23))) ≡ w = omega arith in
    sym (get_or-append-add mode_words setting_words (w - 23) [])
    ∙ sym (get_or-append-add command_words (mode_words ++ setting_words) (10 + (w - 23)) []) ∙ ap word e

pub none_below : (w : ℕ) → w < 1 → [] ≡ word w
unfolding word words
none_below zero h = refl
none_below (suc w) h = absurd (omega arith)

pub none_above : (w : ℕ) → 31 < w → [] ≡ word w
unfolding word words command_words mode_words setting_words
none_above w h = off words w [] (omega arith)

-- ---- no two are the same

apart : List (List ℕ) → Bool
apart [] = true
apart (x ∷ l) = all (λ y. not (same x y)) l && apart l

none_same : (x : List ℕ) (l : List (List ℕ)) (j : ℕ) → all (λ y. not (same x y)) l ≡ true → j < length l → same x (get_or l j []) ≡ false
unfolding all
none_same x [] j e h = absurd (omega arith)
none_same x (y ∷ l) zero e h = not-true (same x y) (and_parts (not (same x y)) (all (λ z. not (same x z)) l) e).0
none_same x (y ∷ l) (suc j) e h =
    none_same x l j (and_parts (not (same x y)) (all (λ z. not (same x z)) l) e).1 (omega arith)

apart_at : (l : List (List ℕ)) (i j : ℕ) → apart l ≡ true → i < j → j < length l → same (get_or l i []) (get_or l j []) ≡ false
unfolding apart
apart_at [] i j e h k = absurd (omega arith)
apart_at (x ∷ l) i zero e h k = absurd (omega arith)
apart_at (x ∷ l) zero (suc j) e h k =
    none_same x l j (and_parts (all (λ y. not (same x y)) l) (apart l) e).0 (omega arith)
apart_at (x ∷ l) (suc i) (suc j) e h k =
    apart_at l i j (and_parts (all (λ y. not (same x y)) l) (apart l) e).1 (omega arith) (omega arith)

words_apart : apart words ≡ true
unfolding apart all same words command_words mode_words setting_words
words_apart = refl

words_count : length words ≡ 32
unfolding words command_words mode_words setting_words
words_count = refl

pub differ : (i w : ℕ) → i < w → w ≤ 31 → same (word i) (word w) ≡ false
unfolding word
differ i w h k = apart_at words i w words_apart h (omega (arith, words_count))
