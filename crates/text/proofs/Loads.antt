-- Bytes and their number: each tells the other, where the bytes are below 256. Assumes nothing.
use Prim.Native.Nat.{ℕ, zero, suc, ◌+◌, ◌-◌, ◌*◌, ◌/◌, ◌%◌, ◌^◌, ◌≤◌, ◌<◌}
use Rattle.text.proofs.Cuts.{four, length_part, drop_step, same_refl, same_true, alike_stop, alike_next, alike_last, starts_same}
use Rattle.text.proofs.Runs.{sets_append}
use Rattle.text.proofs.Tests.{by_test, same_if, eqb_tells, itself}
use Rattle.text.specs.Bytes.{part, same, starts, all, is}
use Rattle.text.specs.Words.{word_of, bytes_of}
use lib.Dec.{eqb, lit<}
use lib.ListN.{length, get_or, take, drop, set, replicate, length-drop, drop_of_length-le}
use lib.Seq.{sets, take_all, take-add, take-nil, drop-nil, drop-drop, get_or-drop}
use mathlib.Core.Bool.{Bool, ◌&&◌}
use mathlib.Core.List.{List, [], ◌∷◌, ◌++◌}
use mathlib.Core.Path.{◌≡◌, refl, sym, ap, ◌∙◌}
use mir.Syntax.{w8}
use mir.Val.{Fits}
use native.Mathlib.Nat.{zero-add, suc-add, mul_assoc, pow-suc, one-le-pow}
use native.Mathlib.Omega.{arith}

-- all are bytes, as `.given` of a slice that is read says it
abbrev pub Bytes : List ℕ → Type 0
Bytes s = (i : ℕ) → Fits w8 (get_or s i 0)

-- ---- the bytes tell the number, and the number the bytes

pub word_back : (s : List ℕ) → Bytes s → bytes_of (length s) (word_of s) ≡ s
unfolding word_of bytes_of
word_back [] f = refl
word_back (b ∷ s) f =
    let h : b < 256 = (f 0).fits in
    let low : (b + word_of s * 256) % 256 ≡ b = omega arith in
    let high : (b + word_of s * 256) / 256 ≡ word_of s = omega arith in
    rw (low, high) (ap (λ (l : List ℕ). b ∷ l) (word_back s (λ i. f (suc i))))

pub bytes_back : (k w : ℕ) → w < 256 ^ k → word_of (bytes_of k w) ≡ w
unfolding word_of bytes_of
bytes_back zero w h = omega arith
bytes_back (suc k) w h =
    let g : w < 256 ^ k * 256 = rw (pow-suc 256 k) at h in
    let e = bytes_back k (w / 256) (omega arith) in
    omega arith

pub length_bytes : (k w : ℕ) → length (bytes_of k w) ≡ k
unfolding bytes_of
length_bytes zero w = refl
length_bytes (suc k) w = ap suc (length_bytes k (w / 256))

pub bytes_small : (k w : ℕ) → Bytes (bytes_of k w)
unfolding bytes_of
bytes_small zero w i = record { fits = omega arith }
bytes_small (suc k) w zero = record { fits = omega arith }
bytes_small (suc k) w (suc i) = bytes_small k (w / 256) i

pub word_small : (s : List ℕ) (k : ℕ) → Bytes s → length s ≤ k → word_of s < 256 ^ k
unfolding word_of
word_small [] k f h = one-le-pow k 256 (lit< tt)
word_small (b ∷ s) zero f h = absurd (omega arith)
word_small (b ∷ s) (suc k) f h =
    let g : b < 256 = (f 0).fits in
    let e = word_small s k (λ i. f (suc i)) (omega arith) in
    rw (pow-suc 256 k) (omega arith)

-- fewer bytes than the number is asked for: zeros follow
pub word_front : (s : List ℕ) (k : ℕ) → Bytes s → length s ≤ k → take (length s) (bytes_of k (word_of s)) ≡ s
unfolding word_of bytes_of
word_front [] k f h = refl
word_front (b ∷ s) zero f h = absurd (omega arith)
word_front (b ∷ s) (suc k) f h =
    let g : b < 256 = (f 0).fits in
    let low : (b + word_of s * 256) % 256 ≡ b = omega arith in
    let high : (b + word_of s * 256) / 256 ≡ word_of s = omega arith in
    rw (low, high) (ap (λ (l : List ℕ). b ∷ l) (word_front s k (λ i. f (suc i)) (omega arith)))

-- the bytes of a number, in two parts
pub bytes_cut : (j k : ℕ) (s : List ℕ) → Bytes s → bytes_of (j + k) (word_of s) ≡ bytes_of j (word_of (take j s)) ++ bytes_of k (word_of (drop j s))
unfolding word_of bytes_of
bytes_cut zero k s f = rw zero-add
bytes_cut (suc j) k [] f =
    rw suc-add (ap (λ (l : List ℕ). 0 ∷ l) (rw (take-nil, drop-nil) at (bytes_cut j k [] f)))
bytes_cut (suc j) k (b ∷ s) f =
    let h : b < 256 = (f 0).fits in
    let low : (x : ℕ) → (b + x * 256) % 256 ≡ b = λ x. omega arith in
    let high : (x : ℕ) → (b + x * 256) / 256 ≡ x = λ x. omega arith in
    rw suc-add (rw (low (word_of s), high (word_of s), low (word_of (take j s)), high (word_of (take j s)))
    (ap (λ (l : List ℕ). b ∷ l) (bytes_cut j k s (λ i. f (suc i)))))

-- as many bytes are the same where their numbers are
pub word_same : (a b : List ℕ) → length a ≡ length b → Bytes a → Bytes b → eqb (word_of a) (word_of b) ≡ same a b
word_same a b e f g =
    same_if (eqb_tells (word_of a) (word_of b)) (itself (same a b))
    (λ h. let j : a ≡ b = sym (word_back a f) ∙ rw (e, h) (word_back b g) in rw j (same_refl b))
    (λ h. ap word_of (same_true a b h))

-- ---- parts by their numbers

pub bytes_take : (n : ℕ) (s : List ℕ) → Bytes s → Bytes (take n s)
bytes_take zero s f i = record { fits = omega arith }
bytes_take (suc n) [] f i = record { fits = omega arith }
bytes_take (suc n) (b ∷ s) f zero = f 0
bytes_take (suc n) (b ∷ s) f (suc i) = bytes_take n s (λ j. f (suc j)) i

bytes_part : (a e : ℕ) (s : List ℕ) → Bytes s → Bytes (part a e s)
bytes_part a e s f = bytes_take (e - a) (drop a s) (λ i. rw get_or-drop (f (a + i)))

part_size : (s : List ℕ) (i k : ℕ) → i + k ≤ length s → length (part i (i + k) s) ≡ k
part_size s i k h = omega (arith, length_part i (i + k) s h)

-- two parts are the same where their numbers are
pub part_same : (a b : List ℕ) (i k : ℕ) {x y : ℕ} → Bytes a → Bytes b → i + k ≤ length a → i + k ≤ length b
    → x ≡ word_of (part i (i + k) a) → y ≡ word_of (part i (i + k) b) → eqb x y ≡ same (part i (i + k) a) (part i (i + k) b)
part_same a b i k f g h l p q =
    rw (p, q)
    (word_same (part i (i + k) a) (part i (i + k) b) (part_size a i k h ∙ sym (part_size b i k l)) (bytes_part i (i + k) a f) (bytes_part i (i + k) b g))

-- four to seven bytes are the same where the first four and the last four are
pub fours_same : (a b : List ℕ) (n : ℕ) {x y z w : ℕ} → Bytes a → Bytes b → n ≤ length a → n ≤ length b → 4 ≤ n → n < 8
    → x ≡ word_of (part 0 (0 + 4) a) → y ≡ word_of (part 0 (0 + 4) b) → z ≡ word_of (part (n - 4) (n - 4 + 4) a) → w ≡ word_of (part (n - 4) (n - 4 + 4) b)
    → (eqb x y && eqb z w) ≡ same (take n a) (take n b)
fours_same a b n f g j k h l p q r t =
    rw (part_same a b 0 4 f g (omega arith) (omega arith) p q, part_same a b (n - 4) 4 f g (omega arith) (omega arith) r t)
    (by_test (same (part 0 (0 + 4) a) (part 0 (0 + 4) b))
    (λ e. rw e (alike_last a b n (0 + 4) 4 h (omega arith) (alike_next a b n 0 4 (omega arith) e)))
    (λ e. rw e (sym (alike_stop a b n 0 4 (omega arith) e))))

-- some bytes are all b where they are the text of as many b
all_same : (b : ℕ) (s : List ℕ) (k : ℕ) → length s ≡ k → same s (replicate k b) ≡ all (is b) s
unfolding same all
all_same b [] zero e = refl
all_same b [] (suc k) e = absurd (omega arith)
all_same b (x ∷ s) zero e = absurd (omega arith)
all_same b (x ∷ s) (suc k) e = ap (λ (t : Bool). eqb x b && t) (all_same b s k (omega arith))

bytes_all : (b k : ℕ) → b < 256 → Bytes (replicate k b)
bytes_all b zero h i = record { fits = omega arith }
bytes_all b (suc k) h zero = record { fits = h }
bytes_all b (suc k) h (suc i) = bytes_all b k h i

word_all_eight : (b : ℕ) → word_of (replicate 8 b) ≡ b * 72340172838076673
unfolding word_of
word_all_eight b = omega arith

pub eight_are : (s : List ℕ) (i b : ℕ) {x : ℕ} → Bytes s → i + 8 ≤ length s → b < 256 → x ≡ word_of (part i (i + 8) s)
    → eqb x (b * 72340172838076673) ≡ all (is b) (part i (i + 8) s)
eight_are s i b f h k p =
    rw (p, ← word_all_eight b)
    (word_same (part i (i + 8) s) (replicate 8 b) (part_size s i 8 h) (bytes_part i (i + 8) s f) (bytes_all b 8 k)
    ∙ all_same b (part i (i + 8) s) 8 (part_size s i 8 h))

-- eight bytes read as a number and put as its bytes are moved
pub eight_moved : (t : List ℕ) (i : ℕ) {w : ℕ} (out : List ℕ) (at : ℕ) {m : List ℕ} → Bytes t → i + 8 ≤ length t → w ≡ word_of (part i (i + 8) t)
    → m ≡ sets out at (bytes_of 8 w) → m ≡ sets out at (part i (i + 8) t)
eight_moved t i out at f h p q =
    let n = part_size t i 8 h in
    let e : bytes_of 8 (word_of (part i (i + 8) t)) ≡ part i (i + 8) t = rw n at (word_back (part i (i + 8) t) (bytes_part i (i + 8) t f)) in
    q ∙ rw (p, e)

-- ---- the number of a part, byte by byte

pub word_four : (s : List ℕ) (i : ℕ) → i + 4 ≤ length s
    → get_or s i 0 + get_or s (i + 1) 0 * 256 + get_or s (i + 2) 0 * 65536 + get_or s (i + 3) 0 * 16777216 ≡ word_of (part i (i + 4) s)
unfolding word_of
word_four s i h = rw (four 0 s i h) (omega arith)

-- and of two parts, one after the other
word_append : (a b : List ℕ) → word_of (a ++ b) ≡ word_of a + word_of b * 256 ^ length a
unfolding word_of
word_append [] b = omega arith
word_append (x ∷ a) b =
    let e : word_of b * (256 ^ length a * 256) ≡ word_of b * 256 ^ length a * 256 = sym (mul_assoc (word_of b) (256 ^ length a) 256) in
    rw (word_append a b, pow-suc 256 (length a), e) (omega arith)

pub word_halves : (s : List ℕ) (i : ℕ) {x y : ℕ} → i + 8 ≤ length s → x ≡ word_of (part i (i + 4) s) → y ≡ word_of (part (i + 4) (i + 4 + 4) s)
    → x + y * 4294967296 ≡ word_of (part i (i + 8) s)
word_halves s i h p q =
    let n : i + 8 - i ≡ (i + 4 - i) + (i + 4 + 4 - (i + 4)) = omega arith in
    let m : i + (i + 4 - i) ≡ i + 4 = omega arith in
    let cut : part i (i + 8) s ≡ part i (i + 4) s ++ part (i + 4) (i + 4 + 4) s =
    rw n (take-add (i + 4 - i) (i + 4 + 4 - (i + 4)) (drop i s) ∙ rw (drop-drop, m)) in
    let e : word_of (part i (i + 8) s) ≡ word_of (part i (i + 4) s) + word_of (part (i + 4) (i + 4 + 4) s) * 256 ^ 4 =
    rw cut (word_append (part i (i + 4) s) (part (i + 4) (i + 4 + 4) s) ∙ rw (part_size s i 4 (omega arith))) in
    omega (arith, p, q, e)

-- ---- from the last byte down

module _ (s : List ℕ) where
  pub bytes_drop : (k : ℕ) → Bytes s → Bytes (drop k s)
  bytes_drop k f i = rw get_or-drop (f (k + i))

  -- another byte has room
  pub word_room : (k : ℕ) → Bytes s → length s ≤ k + 7 → word_of (drop k s) < 72057594037927936
  word_room k f h = word_small (drop k s) 7 (bytes_drop k f) (rw length-drop (omega arith))

  pub word_step : (j k : ℕ) → j < length s → k ≡ j + 1 → word_of (drop k s) * 256 + get_or s j 0 ≡ word_of (drop j s)
  unfolding word_of
  word_step j k h e = rw (drop_step s j h, e) (omega arith)

  pub word_none : (i : ℕ) → length s ≤ i → 0 ≡ word_of (part i (i + 8) s)
  unfolding word_of
  word_none i h = rw (drop_of_length-le s h, take-nil)

  -- past the last byte nothing is added
  pub word_end : (i : ℕ) → length s ≤ i → 0 ≡ word_of (drop i s)
  unfolding word_of
  word_end i h = rw (drop_of_length-le s h)

  pub word_all : (i k : ℕ) → k ≡ i → length s ≤ i + 8 → word_of (drop k s) ≡ word_of (part i (i + 8) s)
  word_all i k e h = rw e (ap word_of (sym (take_all (i + 8 - i) (drop i s) (rw length-drop (omega arith)))))

-- ---- the bytes of a number, stored one by one

module _ (l : List ℕ) (i w : ℕ) where
  pub put_four : w < 4294967296
      → set (set (set (set l i (w % 256)) (i + 1) (w / 256 % 256)) (i + 2) (w / 65536 % 256)) (i + 3) (w / 16777216) ≡ sets l i (bytes_of 4 w)
  unfolding bytes_of
  put_four h =
      let i₁ : i + 1 ≡ suc i = omega arith in
      let i₂ : i + 2 ≡ suc (suc i) = omega arith in
      let i₃ : i + 3 ≡ suc (suc (suc i)) = omega arith in
      let w₂ : w / 65536 ≡ w / 256 / 256 = omega arith in
      let w₃ : w / 16777216 ≡ w / 256 / 256 / 256 % 256 = omega arith in
      rw (i₁, i₂, i₃, w₂, w₃)

-- by its halves
bytes_halves : (w : ℕ) → w < 18446744073709551616 → bytes_of 4 (w % 4294967296) ++ bytes_of 4 (w / 4294967296) ≡ bytes_of 8 w
unfolding bytes_of
bytes_halves w h =
    let q = w / 4294967296 in
    let r = w % 4294967296 in
    let e₁ : w / 256 ≡ q * 16777216 + r / 256 = omega arith in
    let e₂ : w / 256 / 256 ≡ q * 65536 + r / 256 / 256 = omega arith in
    let e₃ : w / 256 / 256 / 256 ≡ q * 256 + r / 256 / 256 / 256 = omega arith in
    let e₄ : w / 256 / 256 / 256 / 256 ≡ q = omega arith in
    let b₁ : w % 256 ≡ r % 256 = omega arith in
    let b₂ : w / 256 % 256 ≡ r / 256 % 256 = rw e₁ (omega arith) in
    let b₃ : w / 256 / 256 % 256 ≡ r / 256 / 256 % 256 = rw e₂ (omega arith) in
    let b₄ : w / 256 / 256 / 256 % 256 ≡ r / 256 / 256 / 256 % 256 = rw e₃ (omega arith) in
    rw (b₁, b₂, b₃, b₄, e₄)

pub halves_put : (l : List ℕ) (i w : ℕ) {a b : List ℕ} → w < 18446744073709551616 → a ≡ sets l i (bytes_of 4 (w % 4294967296))
    → b ≡ sets a (i + 4) (bytes_of 4 (w / 4294967296)) → b ≡ sets l i (bytes_of 8 w)
halves_put l i w h p q =
    let low = bytes_of 4 (w % 4294967296) in
    let high = bytes_of 4 (w / 4294967296) in
    q ∙ rw p (rw (length_bytes 4 (w % 4294967296)) at (sets_append l i low high)) ∙ ap (sets l i) (bytes_halves w h)

-- ---- a text that begins with the bytes of a number

pub word_is : (k w : ℕ) (s : List ℕ) → Bytes s → length s ≡ k → w < 256 ^ k → same (bytes_of k w) s ≡ eqb (word_of s) w
word_is k w s f n h =
    same_if (itself (same (bytes_of k w) s)) (eqb_tells (word_of s) w)
    (λ e. ap word_of (sym (same_true (bytes_of k w) s e)) ∙ bytes_back k w h)
    (λ e. let j : bytes_of k w ≡ s = rw (← e, ← n) (word_back s f) in rw j (same_refl s))

pub starts_word : (k w i : ℕ) (s : List ℕ) → Bytes s → i + k ≤ length s → w < 256 ^ k
    → starts (bytes_of k w) (drop i s) ≡ eqb (word_of (part i (i + k) s)) w
starts_word k w i s f h b =
    let n : k ≡ i + k - i = omega arith in
    let m : length (part i (i + k) s) ≡ k = omega (arith, length_part i (i + k) s h) in
    starts_same (bytes_of k w) (drop i s)
    ∙ ap (λ (j : ℕ). same (bytes_of k w) (take j (drop i s))) (length_bytes k w ∙ n)
    ∙ word_is k w (part i (i + k) s) (bytes_take (i + k - i) (drop i s) (bytes_drop s i f)) m b
