-- Where E0 is allowed, byte by byte. Assumes nothing.
use Prim.Native.Nat.{ℕ, zero, suc, ◌+◌, ◌-◌, ◌≤◌, ◌<◌}
use Rattle.text.proofs.Tests.{by_test, or_parts}
use Rattle.text.specs.Bytes.{any, first_of, is, upto}
use Rattle.text_lines.specs.Lines.{allowed, allowed_from, allowed_upto}
use Rattle.text_lines.specs.Spellings.{Spelling, begins_line, opens, label_room}
use borrow.Author.Tests.{ltb-true, lt-ltb}
use lib.Dec.{ltb}
use lib.ListN.{length, get_or, take}
use mathlib.Core.Bool.{true, false, ◌&&◌, ◌||◌, cond, false≢true}
use mathlib.Core.List.{List, [], ◌∷◌, ◌++◌}
use mathlib.Core.Logic.{◌↔◌}
use mathlib.Core.Path.{◌≡◌, refl, sym, ◌∙◌}
use native.Mathlib.Omega.{arith}

module _ (sp : List Spelling) where
  -- what is left of a label's part after i bytes more
  unfoldable room_at : ℕ → List ℕ → ℕ → ℕ
  room_at n r zero = n
  room_at n [] (suc i) = 0
  room_at n (b ∷ bs) (suc i) = room_at (cond (is 10 b) (label_room sp (upto (is 10) bs)) (n - 1)) bs i

  -- E0 is allowed nowhere but there
  e0_not : (bs : List ℕ) → allowed 224 bs ≡ false
  unfolding allowed
  e0_not [] = refl
  e0_not (c ∷ cs) = refl

  here : (n : ℕ) (bs : List ℕ) → 0 < allowed_from sp n (224 ∷ bs) ↔ 0 < n
  unfolding allowed_from
  here n bs =
      rw (e0_not bs)
      (by_test (ltb 0 n) (λ e. rw e (λ h. ltb-true 0 n e, λ h. omega arith))
      (λ e. rw e (λ h. absurd (omega (arith, h)), λ h. absurd (false≢true (sym e ∙ lt-ltb 0 n h)))))

  stepped : (n b : ℕ) (bs : List ℕ) (i : ℕ) → suc i ≤ allowed_from sp n (b ∷ bs)
      → allowed_from sp n (b ∷ bs) ≡ suc (allowed_from sp (cond (is 10 b) (label_room sp (upto (is 10) bs)) (n - 1)) bs)
  unfolding allowed_from
  stepped n b bs i a =
      by_test (allowed b bs || (is 224 b && ltb 0 n)) (λ t. rw t) (λ t. let z : suc i ≤ 0 = rw t at a in absurd (omega (arith, z)))

  by_room : (i n : ℕ) (r : List ℕ) → i ≤ allowed_from sp n r → i < length r → get_or r i 0 ≡ 224 → i < allowed_from sp n r ↔ 0 < room_at n r i
  unfolding room_at
  by_room i n [] a h e = absurd (omega (arith, h))
  by_room zero n (b ∷ bs) a h e = rw e (here n bs)
  by_room (suc i) n (b ∷ bs) a h e =
      let m = cond (is 10 b) (label_room sp (upto (is 10) bs)) (n - 1) in
      let step : allowed_from sp n (b ∷ bs) ≡ suc (allowed_from sp m bs) = stepped n b bs i a in
      let w = by_room i m bs (omega (arith, a, step)) (omega (arith, h)) e in
      (λ x. w.0 (omega (arith, x, step)), λ x. omega (arith, w.1 x, step))

  -- within one line it falls byte by byte
  in_line : (j n : ℕ) (r : List ℕ) → any (is 10) (take j r) ≡ false → j ≤ length r → room_at n r j ≡ n - j
  unfolding room_at any
  in_line zero n r h k = omega arith
  in_line (suc j) n [] h k = absurd (omega (arith, k))
  in_line (suc j) n (b ∷ bs) h k =
      let o = or_parts (is 10 b) (any (is 10) (take j bs)) h in
      rw o.0 (in_line j (n - 1) bs o.1 (omega (arith, k)) ∙ omega arith)

  -- and each line begins anew
  past_lines : (n : ℕ) (before line : List ℕ) (j : ℕ) → 0 < length before → begins_line before ≡ true → any (is 10) (take j line) ≡ false → j ≤ length line
      → room_at n (before ++ line) (length before + j) ≡ label_room sp (upto (is 10) line) - j
  unfolding room_at
  past_lines n [] line j s e h k = absurd (omega (arith, s))
  past_lines n (b ∷ []) line j s e h k = let z : 1 + j ≡ suc j = omega arith in rw (z, e) (in_line j (label_room sp (upto (is 10) line)) line h k)
  past_lines n (b ∷ c ∷ bs) line j s e h k =
      let z : suc (suc (length bs)) + j ≡ suc (suc (length bs) + j) = omega arith in
      rw z
      (past_lines (cond (is 10 b) (label_room sp (upto (is 10) (c ∷ bs ++ line))) (n - 1)) (c ∷ bs) line j (omega arith) e h k)

  room_is : (before line : List ℕ) (j : ℕ) → begins_line before ≡ true → any (is 10) (take j line) ≡ false → j ≤ length line
      → room_at (label_room sp (upto (is 10) (before ++ line))) (before ++ line) (length before + j) ≡ label_room sp (upto (is 10) line) - j
  room_is [] line j e h k = let z : 0 + j ≡ j = omega arith in rw z (in_line j (label_room sp (upto (is 10) line)) line h k)
  room_is (b ∷ bs) line j e h k = past_lines (label_room sp (upto (is 10) (b ∷ bs ++ line))) (b ∷ bs) line j (omega arith) e h k

  some_room : (l : List ℕ) (j : ℕ) → 0 < label_room sp l - j ↔ (opens sp l ≡ true) × (j < first_of 61 l)
  unfolding label_room
  some_room l j =
      by_test (opens sp l) (λ e. rw e (λ h. (refl, omega (arith, h)), λ h. omega (arith, h.1)))
      (λ e. rw e (λ h. absurd (omega (arith, h)), λ h. absurd (false≢true h.0)))

  length_join : (before line : List ℕ) → length (before ++ line) ≡ length before + length line
  length_join [] line = omega arith
  length_join (b ∷ bs) line = omega (arith, length_join bs line)

  get_d_join : (before line : List ℕ) (j : ℕ) → get_or (before ++ line) (length before + j) 0 ≡ get_or line j 0
  get_d_join [] line j = let z : 0 + j ≡ j = omega arith in rw z
  get_d_join (b ∷ bs) line j = let z : suc (length bs) + j ≡ suc (length bs + j) = omega arith in rw z (get_d_join bs line j)

  pub exactly : (before line : List ℕ) (j : ℕ) → begins_line before ≡ true → any (is 10) (take j line) ≡ false → j < length line → get_or line j 0 ≡ 224
      → length before + j ≤ allowed_upto sp (before ++ line)
      → length before + j < allowed_upto sp (before ++ line) ↔ (opens sp (upto (is 10) line) ≡ true) × (j < first_of 61 (upto (is 10) line))
  unfolding allowed_upto
  exactly before line j e h k b a =
      let n = label_room sp (upto (is 10) (before ++ line)) in
      let w = by_room (length before + j) n (before ++ line) a (omega (arith, length_join before line, k)) (get_d_join before line j ∙ b) in
      let r = room_is before line j e h (omega (arith, k)) in
      let s = some_room (upto (is 10) line) j in
      (λ x. s.0 (omega (arith, w.0 x, r)), λ x. w.1 (omega (arith, s.1 x, r)))
