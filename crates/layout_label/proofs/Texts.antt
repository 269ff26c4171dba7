-- A padded label and its words: each tells the other, and a text begins with the one where it begins with the others. Assumes nothing.
use Prim.Native.Nat.{ℕ, zero, suc, ◌+◌, ◌-◌, ◌≤◌, ◌<◌}
use Rattle.layout_label.specs.Labels.{padded, words_of, label_of, label_text}
use Rattle.layout_label.specs.declared.Label.{Label}
use Rattle.layout.specs.Fields.{market, command, technical, mfrr, rc, mg, eb, lb, sr, vq, ri, qr}
use Rattle.layout.specs.Layouts.{fields_of, labels_of, label_at}
use Rattle.layout.specs.declared.Layout.TheVariants.{Market, Mfrr, Revocation, Generic, Exclusion, Limitation, Secondary, VoltVar, Rejection, Reserve}
use Rattle.layout.specs.declared.Layout.{Layout}
use Rattle.text.proofs.Cuts.{all_append, starts_short, starts_append}
use Rattle.text.proofs.Loads.{Bytes, word_back, length_bytes, bytes_cut, bytes_drop, starts_word}
use Rattle.text.proofs.Runs.{Run, then}
use Rattle.text.proofs.Tables.{all_at}
use Rattle.text.proofs.Tests.{and_parts}
use Rattle.text.specs.Bytes.{part, all, starts}
use Rattle.text.specs.Words.{word_of, bytes_of}
use borrow.Author.Tests.{leb-true, ltb-true}
use lib.Dec.{eqb, leb, ltb}
use lib.ListN.{length, get_or, take, drop, replicate, length-append, length-replicate, length-drop, drop_of_length-le}
use lib.Seq.{sets, sets-eq, drop-drop, take_all, take-append_seam}
use mathlib.Core.Bool.{Bool, true, false, ◌&&◌}
use mathlib.Core.List.{List, [], ◌∷◌, ◌++◌, append_assoc, append-nil}
use mathlib.Core.Path.{◌≡◌, refl, sym, ap, ◌∙◌}
use native.Mathlib.Omega.{arith}

-- ---- the words of a label

pub length_text : (l : Label) → length (label_text l) ≡ 36
unfolding label_text bytes_of
length_text l = refl

-- each at its place
pub text_put : (l : Label) (out : List ℕ) (i : ℕ) {a b c d e : List ℕ} → a ≡ sets out i (bytes_of 8 l.first) → b ≡ sets a (i + 8) (bytes_of 8 l.second)
    → c ≡ sets b (i + 16) (bytes_of 8 l.third) → d ≡ sets c (i + 24) (bytes_of 8 l.fourth) → e ≡ sets d (i + 32) (bytes_of 4 l.last)
    → e ≡ sets out i (label_text l)
unfolding label_text
text_put l out i {a} {b} {c} {d} {e} p q r s t =
    let first : Run out i (bytes_of 8 l.first) (i + 8) a =
    record { place = omega (arith, length_bytes 8 l.first); bytes = p } in
    let second : Run a (i + 8) (bytes_of 8 l.second) (i + 16) b =
    record { place = omega (arith, length_bytes 8 l.second); bytes = q } in
    let third : Run b (i + 16) (bytes_of 8 l.third) (i + 24) c =
    record { place = omega (arith, length_bytes 8 l.third); bytes = r } in
    let fourth : Run c (i + 24) (bytes_of 8 l.fourth) (i + 32) d =
    record { place = omega (arith, length_bytes 8 l.fourth); bytes = s } in
    let last : Run d (i + 32) (bytes_of 4 l.last) (i + 36) e =
    record { place = omega (arith, length_bytes 4 l.last); bytes = t } in
    (then (then (then (then first second) third) fourth) last).bytes

-- put into a room of its length
pub text_room : (l : Label) (room t : List ℕ) → length room ≡ 36 → t ≡ sets room 0 (label_text l) → t ≡ label_text l
text_room l room t h e =
    let n : length room ≤ 36 = omega arith in
    e ∙ sets-eq (label_text l) room 0 (omega (arith, length_text l))
    ∙ rw (length_text l, drop_of_length-le room n) (append-nil (label_text l))

module _ (l : Label) (s : List ℕ) where
  pub printed_short : length s < 36 → false ≡ starts (label_text l) s
  printed_short h = starts_short (label_text l) s (omega (arith, length_text l))

  pub printed_is : {a b c d e : ℕ} → Bytes s → 36 ≤ length s
      → l.first < 18446744073709551616 → l.second < 18446744073709551616 → l.third < 18446744073709551616 → l.fourth < 18446744073709551616
      → l.last < 4294967296 → a ≡ word_of (part 0 8 s) → b ≡ word_of (part 8 16 s) → c ≡ word_of (part 16 24 s) → d ≡ word_of (part 24 32 s)
      → e ≡ word_of (part 32 36 s)
      → (eqb a l.first && eqb b l.second && eqb c l.third && eqb d l.fourth && eqb e l.last) ≡ starts (label_text l) s
  unfolding label_text
  printed_is f h k₁ k₂ k₃ k₄ k₅ p q r t u =
      let A = bytes_of 8 l.first in
      let B = bytes_of 8 l.second in
      let C = bytes_of 8 l.third in
      let D = bytes_of 8 l.fourth in
      let E = bytes_of 4 l.last in
      let n₁ : length A ≡ 8 = length_bytes 8 l.first in
      let n₂ : length (A ++ B) ≡ 16 = simp length-append (omega (arith, n₁, length_bytes 8 l.second)) in
      let n₃ : length (A ++ B ++ C) ≡ 24 = simp length-append (omega (arith, n₁, length_bytes 8 l.second, length_bytes 8 l.third)) in
      let n₄ : length (A ++ B ++ C ++ D) ≡ 32 =
      simp length-append (omega (arith, n₁, length_bytes 8 l.second, length_bytes 8 l.third, length_bytes 8 l.fourth)) in
      sym (starts_append (A ++ B ++ C ++ D) E s
      ∙ rw (
        n₄,
        starts_append (A ++ B ++ C) D s,
        n₃,
        starts_append (A ++ B) C s,
        n₂,
        starts_append A B s,
        n₁,
        starts_word 8 l.first 0 s f (omega arith) k₁,
        starts_word 8 l.second 8 s f (omega arith) k₂,
        starts_word 8 l.third 16 s f (omega arith) k₃,
        starts_word 8 l.fourth 24 s f (omega arith) k₄,
        starts_word 4 l.last 32 s f (omega arith) k₅,
        p,
        q,
        r,
        t,
        u,
      ))

-- ---- the labels of the table

-- 36 bytes as words are those bytes
text_words : (n : ℕ) (t : List ℕ) → Bytes t → length t ≡ 36 → label_text (words_of n t) ≡ t
unfolding label_text words_of
text_words n t f h =
    let rest : drop 32 t ≡ part 32 36 t = sym (take_all 4 (drop 32 t) (rw length-drop (omega arith))) in
    let cut : (i k : ℕ) → bytes_of (8 + k) (word_of (drop i t)) ≡ bytes_of 8 (word_of (take 8 (drop i t))) ++ bytes_of k (word_of (drop (i + 8) t)) =
    λ i k. bytes_cut 8 k (drop i t) (bytes_drop t i f)
    ∙ ap (λ (l : List ℕ). bytes_of 8 (word_of (take 8 (drop i t))) ++ bytes_of k (word_of l)) (drop-drop 8 i t) in
    let whole : bytes_of 36 (word_of t) ≡ t = rw h at (word_back t f) in
    simp append_assoc
    (sym (sym whole ∙ cut 0 28 ∙ ap (λ (l : List ℕ). bytes_of 8 (word_of (part 0 8 t)) ++ l)
    (cut 8 20 ∙ ap (λ (l : List ℕ). bytes_of 8 (word_of (part 8 16 t)) ++ l)
    (cut 16 12 ∙ ap (λ (l : List ℕ). bytes_of 8 (word_of (part 16 24 t)) ++ l)
    (cut 24 4 ∙ ap (λ (l : List ℕ). bytes_of 8 (word_of (part 24 32 t)) ++ bytes_of 4 (word_of l)) rest)))))

-- by a test of each table that antt computes: bytes, and short enough to be padded
good : List ℕ → Bool
good t = leb (length t) 36 && all (λ b. ltb b 256) t

all_good : (l : Layout) → all good (labels_of l) ≡ true
unfolding good all labels_of fields_of market command technical mfrr rc mg eb lb sr vq ri qr
all_good Market = refl
all_good Mfrr = refl
all_good Revocation = refl
all_good Generic = refl
all_good Exclusion = refl
all_good Limitation = refl
all_good Secondary = refl
all_good VoltVar = refl
all_good Rejection = refl
all_good Reserve = refl

module _ (l : Layout) (k : ℕ) where
  good_at : good (label_at l k) ≡ true
  unfolding label_at good all
  good_at = all_at good ([] ∷ labels_of l) k [] (all_good l) refl

  pub label_short : length (label_at l k) ≤ 36
  unfolding good
  label_short = leb-true (length (label_at l k)) 36 (and_parts (leb (length (label_at l k)) 36) (all (λ b. ltb b 256) (label_at l k)) good_at).0

  -- a label's bytes, and the blanks'
  padded_bytes : Bytes (padded (label_at l k))
  unfolding padded good all
  padded_bytes i =
      let t = label_at l k in
      let e = (and_parts (leb (length t) 36) (all (λ b. ltb b 256) t) good_at).1 in
      let f = all_append (λ b. ltb b 256) t (replicate (36 - length t) 32) e (all_blanks (36 - length t)) in
      record { fits = ltb-true (get_or (padded t) i 0) 256 (all_at (λ b. ltb b 256) (padded t) i 0 f refl) }
    where
      all_blanks : (n : ℕ) → all (λ b. ltb b 256) (replicate n 32) ≡ true
      all_blanks zero = refl
      all_blanks (suc n) = all_blanks n

  pub length_padded : length (padded (label_at l k)) ≡ 36
  unfolding padded
  length_padded = simp (length-append, length-replicate) (omega (arith, label_short))

  -- the words of a label spell it padded
  pub label_text_lem : {m : Label} → m ≡ label_of (label_at l k) → label_text m ≡ padded (label_at l k)
  unfolding label_of
  label_text_lem e = rw e (text_words (length (label_at l k)) (padded (label_at l k)) padded_bytes length_padded)

  pub label_size : {m : Label} → m ≡ label_of (label_at l k) → m.size ≡ length (label_at l k)
  unfolding label_of words_of
  label_size e = ap (λ (m : Label). m.size) e

  -- put into a room, its front is the label
  pub label_front : {m : Label} {t front : List ℕ} → m ≡ label_of (label_at l k) → t ≡ sets (replicate 36 0) 0 (label_text m) → front ≡ take m.size t
      → front ≡ label_at l k
  unfolding padded
  label_front {m} {t} e p f =
      f ∙ rw (label_size e, text_room m (replicate 36 0) t refl p, label_text_lem e)
      (take-append_seam (label_at l k) (replicate (36 - length (label_at l k)) 32))
