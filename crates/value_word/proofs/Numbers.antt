-- A word and its numbers: each tells the other. Assumes nothing.
use Rattle.std.specs.Prelude.{None}
use Prim.Native.Nat.{ℕ, zero, suc, ◌≤◌, ◌<◌}
use Rattle.text.proofs.Cuts.{same_refl, same_true, same_lengths}
use Rattle.text.proofs.Loads.{Bytes, word_front, bytes_cut, bytes_drop}
use Rattle.text.proofs.Runs.{sets_append}
use Rattle.text.proofs.Tables.{all_at}
use Rattle.text.proofs.Tests.{and_parts, same_if, itself}
use Rattle.text.specs.Bytes.{part, same, all}
use Rattle.text.specs.Words.{word_of, bytes_of}
use Rattle.value_word.proofs.RoundTrip.{word_short}
use Rattle.value_word.specs.Words.{command_words, mode_words, setting_words, words, word, word_from, spelling_of}
use Rattle.value_word.specs.declared.Spelling.{Spelling}
use borrow.Author.Tests.{ltb-true, eq-eqb, eqb-true}
use lib.Dec.{eqb, ltb}
use lib.ListN.{length, get_or, take, drop, replicate, length-drop, drop_of_length-le}
use lib.Seq.{sets, sets-eq, take_all, drop-drop}
use mathlib.Core.Bool.{◌&&◌}
use mathlib.Core.List.{List, [], ◌++◌, append-nil, append_assoc}
use mathlib.Core.Path.{◌≡◌, refl, sym, ap, ◌∙◌}
use native.Mathlib.Omega.{arith}

-- by a test of the table that antt computes
pub word_bytes : (w : ℕ) → Bytes (word w)
unfolding word words command_words mode_words setting_words all
word_bytes w i =
    let e = all_at (λ t. all (λ b. ltb b 256) t) words w [] refl refl in
    record { fits = ltb-true (get_or (word w) i 0) 256 (all_at (λ b. ltb b 256) (word w) i 0 e refl) }

-- the bytes of the three numbers
abbrev pub three : ℕ → ℕ → ℕ → List ℕ
three a b c = bytes_of 8 a ++ bytes_of 8 b ++ bytes_of 8 c

module _ (t : List ℕ) (f : Bytes t) (h : length t ≤ 24) where
  three_is : three (word_of (part 0 8 t)) (word_of (part 8 16 t)) (word_of (part 16 24 t)) ≡ bytes_of 24 (word_of t)
  three_is =
      let rest : drop 16 t ≡ part 16 24 t = sym (take_all 8 (drop 16 t) (rw length-drop (omega arith))) in
      let g : Bytes (drop 8 t) = bytes_drop t 8 f in
      append_assoc (bytes_of 8 (word_of (part 0 8 t))) (bytes_of 8 (word_of (part 8 16 t))) (bytes_of 8 (word_of (part 16 24 t)))
      ∙ sym (bytes_cut 8 16 t f
      ∙ ap (λ (l : List ℕ). bytes_of 8 (word_of (take 8 t)) ++ l)
      (bytes_cut 8 8 (drop 8 t) g ∙ ap (λ (l : List ℕ). bytes_of 8 (word_of (take 8 (drop 8 t))) ++ bytes_of 8 (word_of l)) (drop-drop 8 8 t ∙ rest)))

  -- the word stands in the room where its numbers were put
  pub three_front : take (length t) (three (word_of (part 0 8 t)) (word_of (part 8 16 t)) (word_of (part 16 24 t))) ≡ t
  three_front = rw three_is (word_front t 24 f h)

module _ (t s : List ℕ) (f : Bytes t) (g : Bytes s) (h : length t ≤ 24) (k : length s ≤ 24) where
  -- where the lengths and the numbers are the same
  pub numbers_same : (eqb (length t) (length s)
      && eqb (word_of (part 0 8 t)) (word_of (part 0 8 s))
      && eqb (word_of (part 8 16 t)) (word_of (part 8 16 s))
      && eqb (word_of (part 16 24 t)) (word_of (part 16 24 s)))
      ≡ same t s
  numbers_same =
      let size = eqb (length t) (length s) in
      let first = eqb (word_of (part 0 8 t)) (word_of (part 0 8 s)) in
      let second = eqb (word_of (part 8 16 t)) (word_of (part 8 16 s)) in
      let third = eqb (word_of (part 16 24 t)) (word_of (part 16 24 s)) in
      same_if (itself (size && first && second && third)) (itself (same t s))
      (λ e. let p = and_parts (size && first && second) third e in
      let q = and_parts (size && first) second p.0 in
      let r = and_parts size first q.0 in
      let n = eqb-true (length t) (length s) r.0 in
      let a = eqb-true (word_of (part 0 8 t)) (word_of (part 0 8 s)) r.1 in
      let b = eqb-true (word_of (part 8 16 t)) (word_of (part 8 16 s)) q.1 in
      let c = eqb-true (word_of (part 16 24 t)) (word_of (part 16 24 s)) p.1 in
      let j : t ≡ s = sym (three_front t f h) ∙ rw (n, a, b, c) (three_front s g k) in
      rw j (same_refl s))
      (λ e. rw (
        same_true t s e,
        eq-eqb (length s) (length s) refl,
        eq-eqb (word_of (part 0 8 s)) (word_of (part 0 8 s)) refl,
        eq-eqb (word_of (part 8 16 s)) (word_of (part 8 16 s)) refl,
        eq-eqb (word_of (part 16 24 s)) (word_of (part 16 24 s)) refl,
      ))

-- the test of a word against a text of which the numbers are known
pub spelt_is : (m : Spelling) (w : ℕ) (s : List ℕ) (a b c : ℕ) → m ≡ spelling_of (word w) → Bytes s → length s ≤ 20
    → a ≡ word_of (part 0 8 s) → b ≡ word_of (part 8 16 s) → c ≡ word_of (part 16 24 s)
    → (eqb m.size (length s) && eqb m.first a && eqb m.second b && eqb m.last c) ≡ same (word w) s
unfolding spelling_of
spelt_is m w s a b c e g h ea eb ec =
    rw (e, ea, eb, ec) (numbers_same (word w) s (word_bytes w) g (omega (arith, word_short w)) (omega arith))

-- a text that is longer than all words is none
pub too_long : (n i : ℕ) (s : List ℕ) → 20 < length s → word_from n i s ≡ None
unfolding word_from
too_long zero i s h = refl
too_long (suc n) i s h =
    rw (sym (same_lengths (word i) s (λ e. omega (arith, word_short i)))) (too_long n (suc i) s h)

-- three numbers put into a room are their bytes
pub three_put : (l : List ℕ) (a b c : ℕ) → length l ≡ 24
    → sets (sets (sets l 0 (bytes_of 8 a)) 8 (bytes_of 8 b)) 16 (bytes_of 8 c) ≡ three a b c
unfolding bytes_of
three_put l a b c h =
    ap (λ (m : List ℕ). sets m 16 (bytes_of 8 c)) (sets_append l 0 (bytes_of 8 a) (bytes_of 8 b))
    ∙ sets_append l 0 (bytes_of 8 a ++ bytes_of 8 b) (bytes_of 8 c)
    ∙ sets-eq (three a b c) l 0 (omega arith)
    ∙ let n : length l ≤ 24 = omega arith in rw (drop_of_length-le l n) (append-nil (three a b c))

-- a word put by its numbers, and its front taken
pub spelt_put : (m : Spelling) (w : ℕ) {t₁ t₂ t₃ front : List ℕ} → m ≡ spelling_of (word w) → t₁ ≡ sets (replicate 24 0) 0 (bytes_of 8 m.first)
    → t₂ ≡ sets t₁ 8 (bytes_of 8 m.second) → t₃ ≡ sets t₂ 16 (bytes_of 8 m.last) → front ≡ take m.size t₃ → front ≡ word w
unfolding spelling_of
spelt_put m w e p q r f =
    f ∙ rw (r, q, p, three_put (replicate 24 0) m.first m.second m.last refl, e)
    (three_front (word w) (word_bytes w) (omega (arith, word_short w)))
