-- Runs of stores into a buffer: one put after another, a text byte by byte, the digits of a number, and the whole write.
-- Assumes nothing.
use Rattle.std.specs.Prelude.{Ok, Err}
use Rattle.refusal.specs.declared.Refusal.TheVariants.{NoRoom}
use Prim.Native.Nat.{ℕ, zero, suc, ◌+◌, ◌-◌, ◌/◌, ◌%◌, min, ◌≤◌, ◌<◌}
use Rattle.text.proofs.Cuts.{tail}
use Rattle.text.proofs.Numerals.{length_text, digits_last}
use Rattle.text.proofs.Tests.{by_le}
use Rattle.text.specs.Bytes.{part}
use Rattle.text.specs.Digits.{digits_text, whole_text}
use Rattle.text.specs.Puts.{wrote_of, buffer_of, room_of, Puts}
use borrow.Author.Tests.{le-leb, lt-leb}
use lib.ListN.{length, get_or, take, drop, set, replicate, length-append, length-drop, length-replicate, drop_of_length-le, take-append-drop}
use lib.Seq.{sets, sets-eq, set_out, set_comm, set-set, length-sets, length-take-le, take-suc, take-add, drop-drop}
use mathlib.Core.List.{List, [], ◌∷◌, ◌++◌, append_assoc, append-nil}
use mathlib.Core.Path.{◌≡◌, refl, sym, ap, ◌∙◌}
use native.Mathlib.Nat.{add-zero, div-one}
use native.Mathlib.Numerals.{add-one}
use native.Mathlib.Omega.{arith}

-- stores past the end are none
sets_past : (l : List ℕ) (at : ℕ) (t : List ℕ) → length l ≤ at → sets l at t ≡ l
sets_past l at [] h = refl
sets_past l at (b ∷ t) h = rw (set_out l at b h) (sets_past l (suc at) t (omega arith))

pub sets_append : (l : List ℕ) (at : ℕ) (t u : List ℕ) → sets (sets l at t) (at + length t) u ≡ sets l at (t ++ u)
sets_append l at [] u = rw add-zero
sets_append l at (b ∷ t) u =
    let n : at + suc (length t) ≡ suc at + length t = omega arith in
    rw n (sets_append (set l at b) (suc at) t u)

-- ---- a put, as its contract states it, and puts one after another

-- the same as a record, whose type shows antt what was put
pub record Run (l : List ℕ) (at : ℕ) (t : List ℕ) (r : ℕ) (m : List ℕ) : Type 0 where
  pub place : r ≡ at + length t
  pub bytes : m ≡ sets l at t

pub puts : {l : List ℕ} {at : ℕ} {t : List ℕ} {r : ℕ} {m : List ℕ} → Puts l at t r m → Run l at t r m
puts p = record { place = p.0; bytes = p.1 }

-- of a text whose length the contract gives as a number
pub puts_of : {l : List ℕ} {at : ℕ} {t : List ℕ} {r : ℕ} {m : List ℕ} (k : ℕ) → length t ≡ k → (r ≡ at + k) × (m ≡ sets l at t) → Run l at t r m
puts_of k e p = record { place = omega (arith, e, p.0); bytes = p.1 }

-- nothing was put
pub puts_none : (l : List ℕ) (at : ℕ) → Run l at [] at l
puts_none l at = record { place = omega arith; bytes = refl }

pub then : {l : List ℕ} {at : ℕ} {t : List ℕ} {a : ℕ} {l₁ : List ℕ} {u : List ℕ} {b : ℕ} {l₂ : List ℕ} → Run l at t a l₁ → Run l₁ a u b l₂
    → Run l at (t ++ u) b l₂
then {l} {at} {t} {a} {l₁} {u} {b} {l₂} p q =
    record {
      place = omega (arith, p.place, q.place, length-append t u);
      bytes = q.bytes ∙ rw (p.bytes, p.place) (sets_append l at t u);
    }

-- back to a contract, of another writing of the same text
pub same_puts : {l : List ℕ} {at : ℕ} {t : List ℕ} {r : ℕ} {m : List ℕ} (u : List ℕ) → t ≡ u → Run l at t r m → Puts l at u r m
same_puts u e p = rw (sym e) (p.place, p.bytes)

-- ---- a text from its front on

-- k more bytes, behind the first i
pub front_next : (l m : List ℕ) (at : ℕ) (t : List ℕ) (i k : ℕ) → i + k ≤ length t
    → l ≡ sets m at (take i t) → sets l (at + i) (part i (i + k) t) ≡ sets m at (take (i + k) t)
front_next l m at t i k h e =
    let n : i + k - i ≡ k = omega arith in
    let w : length (take i t) ≡ i = length-take-le i t (omega arith) in
    rw (e, n, take-add i k t) (rw w at (sets_append m at (take i t) (take k (drop i t))))

-- one more
pub front_one : (l m : List ℕ) (at : ℕ) (t : List ℕ) (i : ℕ) → i < length t
    → l ≡ sets m at (take i t) → set l (at + i) (get_or t i 0) ≡ sets m at (take (i + 1) t)
front_one l m at t i h e =
    let w : length (take i t) ≡ i = length-take-le i t (omega arith) in
    rw (e, add-one, take-suc t i 0 h) (rw w at (sets_append m at (take i t) (get_or t i 0 ∷ [])))

-- a store before a run may be made after it
set_before : (l : List ℕ) (p q b : ℕ) (t : List ℕ) → p < q → set (sets l q t) p b ≡ sets (set l p b) q t
set_before l p q b [] h = refl
set_before l p q b (x ∷ t) h =
    set_before (set l q x) p (suc q) b t (omega arith)
    ∙ ap (λ (m : List ℕ). sets m (suc q) t) (set_comm l q p x b (λ e. omega arith))

-- what is put twice is put once
sets_twice : (l : List ℕ) (p : ℕ) (t u : List ℕ) → sets (sets l p t) p (t ++ u) ≡ sets l p (t ++ u)
sets_twice l p [] u = refl
sets_twice l p (x ∷ t) u =
    let e : set (sets (set l p x) (suc p) t) p x ≡ sets (set l p x) (suc p) t =
    set_before (set l p x) p (suc p) x t (omega arith) ∙ ap (λ (m : List ℕ). sets m (suc p) t) (set-set l p x x) in
    ap (λ (m : List ℕ). sets m (suc p) (t ++ u)) e ∙ sets_twice (set l p x) (suc p) t u

-- the last k bytes of the first j + k, of which the first i are put already
pub front_last : (l m : List ℕ) (at : ℕ) (t : List ℕ) (i j k : ℕ) → j ≤ i → i ≤ j + k → j + k ≤ length t
    → l ≡ sets m at (take i t) → sets l (at + j) (part j (j + k) t) ≡ sets m at (take (j + k) t)
front_last l m at t i j k g h f e =
    let before = sets m at (take j t) in
    let n : i - j + (j + k - i) ≡ j + k - j = omega arith in
    let o : i ≡ j + (i - j) = omega arith in
    let p : j + (i - j) - j ≡ i - j = omega arith in
    let first : sets before (at + j) (take (i - j) (drop j t)) ≡ l =
    rw p at (front_next before m at t j (i - j) (omega arith) refl) ∙ ap (λ (x : ℕ). sets m at (take x t)) (sym o) ∙ sym e in
    let cut : part j (j + k) t ≡ take (i - j) (drop j t) ++ take (j + k - i) (drop (i - j) (drop j t)) =
    ap (λ (x : ℕ). take x (drop j t)) (sym n) ∙ take-add (i - j) (j + k - i) (drop j t) in
    rw (sym first, cut) (sets_twice before (at + j) (take (i - j) (drop j t)) (take (j + k - i) (drop (i - j) (drop j t))))
    ∙ ap (sets before (at + j)) (sym cut)
    ∙ front_next before m at t j k f refl

-- what there is no room for is not put
pub text_clip : (l : List ℕ) (at : ℕ) (t : List ℕ) (n : ℕ) → n ≡ min (length t) (length l - at) → sets l at (take n t) ≡ sets l at t
text_clip l at t n e =
    let m = sets l at (take n t) in
    let w : length (take n t) ≡ n = length-take-le n t (omega arith) in
    let none : sets m (at + n) (drop n t) ≡ m =
    by_le (length t) n (λ h. rw (drop_of_length-le t h))
    (λ h. sets_past m (at + n) (drop n t) (omega (arith, length-sets l at (take n t)))) in
    sym none ∙ rw w at (sets_append l at (take n t) (drop n t)) ∙ ap (sets l at) (take-append-drop n t)

pub text_none : (l : List ℕ) (at : ℕ) (t : List ℕ) (n : ℕ) → n ≡ min (length t) (length l - at) → n ≡ 0 → l ≡ sets l at t
text_none l at t n e z = rw z at (text_clip l at t n e)

-- ---- digits, the last one first

-- the last store of a run may be the first
sets_last : (l : List ℕ) (at : ℕ) (t : List ℕ) (b : ℕ) → sets l at (t ++ b ∷ []) ≡ sets (set l (at + length t) b) at t
sets_last l at [] b = rw add-zero
sets_last l at (x ∷ t) b =
    let n : at + suc (length t) ≡ suc at + length t = omega arith in
    sets_last (set l at x) (suc at) t b
    ∙ rw n (ap (λ (m : List ℕ). sets m (suc at) t) (set_comm l at (suc at + length t) x b (λ e. omega arith)))

-- the last digit, and those of what is left before it, are the digits
pub digit_step : (l m : List ℕ) (at j n : ℕ) → 0 < j → m ≡ sets l (at + (j - 1)) ((48 + n % 10) ∷ [])
    → sets m at (digits_text (j - 1) (n / 10)) ≡ sets l at (digits_text j n)
digit_step l m at zero n h f = absurd (omega arith)
digit_step l m at (suc j) n h f =
    let d : suc j - 1 ≡ j = omega arith in
    rw (f, d, digits_last j n, sets_last l at (digits_text j (n / 10)) (48 + n % 10), length_text j (n / 10))

-- two digits at a time
pub two_digits : (l : List ℕ) (at j n : ℕ) → 1 < j
    → sets (set (set l (at + (j - 2)) (48 + n % 100 / 10)) (at + (j - 2) + 1) (48 + n % 100 % 10)) at (digits_text (j - 2) (n / 100))
    ≡ sets l at (digits_text j n)
two_digits l at j n h =
    let tens : n % 100 / 10 ≡ n / 10 % 10 = omega arith in
    let ones : n % 100 % 10 ≡ n % 10 = omega arith in
    let rest : n / 100 ≡ n / 10 / 10 = omega arith in
    let place : at + (j - 2) + 1 ≡ at + (j - 1) = omega arith in
    let fewer : j - 2 ≡ j - 1 - 1 = omega arith in
    let last = digit_step l (set l (at + (j - 1)) (48 + n % 10)) at j n (omega arith) refl in
    let swap = set_comm l (at + (j - 1 - 1)) (at + (j - 1)) (48 + n / 10 % 10) (48 + n % 10) (λ e. omega arith) in
    rw (tens, ones, rest, place, fewer, swap)
    (digit_step (set l (at + (j - 1)) (48 + n % 10)) _ at (j - 1) (n / 10) (omega arith) refl ∙ last)

-- the last one alone, or none
pub one_digit : (l : List ℕ) (at j n : ℕ) → j ≡ 1 → set l at (48 + n % 10) ≡ sets l at (digits_text j n)
unfolding digits_text
one_digit l at j n e = rw (e, div-one)

pub digit_end : (l : List ℕ) (p j n : ℕ) → j ≤ 0 → sets l p (digits_text j n) ≡ l
unfolding digits_text
digit_end l p zero n h = refl
digit_end l p (suc j) n h = absurd (omega arith)

-- a number without leading zeros
pub whole_put : (l m : List ℕ) (at k n size r : ℕ) → whole_text k n ≡ digits_text size n → (r ≡ at + size) × (m ≡ sets l at (digits_text size n))
    → Puts l at (whole_text k n) r m
whole_put l m at k n size r e p =
    same_puts (whole_text k n) (sym e) (puts_of size (length_text size n) p)

-- ---- the whole write: the length is found on an empty part, then the text is put or refused

pub none_put : (at : ℕ) (t : List ℕ) → sets [] at t ≡ []
none_put at t = sets_past [] at t (omega arith)

-- an empty part that came back changes nothing
part_back : (l m t : List ℕ) → m ≡ sets [] 0 t → m ++ l ≡ l
part_back l m t e = rw (e, none_put 0 t)

module _ (l m t : List ℕ) (at n : ℕ) (first : Puts [] 0 t n m) where
  -- there is no room, and nothing was changed
  pub refused_write : length (m ++ l) < at + n → (Err (NoRoom n) ≡ wrote_of l at t) × (m ++ l ≡ buffer_of l at t)
  unfolding wrote_of buffer_of
  refused_write h =
      let e = part_back l m t first.1 in
      let k : n ≡ length t = omega (arith, first.0) in
      let g : length l < at + length t = omega (arith, ap length e) in
      rw (e, k, lt-leb (at + length t) (length l) g) (refl, refl)

  -- there is, and what came back of the part from the place on stands behind what stood before it
  pub done_write : (r : ℕ) (m₂ : List ℕ) → at + n ≤ length (m ++ l)
      → Puts (take (length (m ++ l) - at) (drop at (m ++ l))) 0 t r m₂
      → (Ok (at + n) ≡ wrote_of l at t) × (take at (m ++ l) ++ (m₂ ++ drop (length (m ++ l) - at) (drop at (m ++ l))) ≡ buffer_of l at t)
  unfolding wrote_of buffer_of
  done_write r m₂ h second =
      let e = part_back l m t first.1 in
      let k : n ≡ length t = omega (arith, first.0) in
      let g : at + length t ≤ length l = omega (arith, ap length e) in
      let z : 0 + length t ≤ length (drop at l) = omega (arith, length-drop at l) in
      let o : 0 + length t ≡ length t = omega arith in
      let far : length (drop at l) ≤ length l - at = omega (arith, length-drop at l) in
      let past : drop (length l - at) (drop at l) ≡ [] = drop_of_length-le (drop at l) far in
      let put : m₂ ≡ t ++ drop (at + length t) l =
      rw (e, tail l at) at second.1 ∙ sets-eq t (drop at l) 0 z ∙ rw (o, drop-drop (length t) at l) refl in
      rw (e, k, le-leb (at + length t) (length l) g, past, put)
      (refl, ap (λ (x : List ℕ). take at l ++ x) (append-nil (t ++ drop (at + length t) l)) ∙ sym (append_assoc (take at l) t (drop (at + length t) l)))

-- a text that is put into a room of zeros
pub room_put : (n : ℕ) (t : List ℕ) → length t ≤ n → sets (replicate n 0) 0 t ≡ room_of n t
unfolding room_of
room_put n t h =
    let z : 0 + length t ≤ length {A = ℕ} (replicate n 0) = omega (arith, length-replicate {A = ℕ} n 0) in
    let k : 0 + length t ≡ length t = omega arith in
    sets-eq t (replicate n 0) 0 z ∙ rw k (ap (λ (l : List ℕ). t ++ l) (drop_zeros n (length t)))
  where
    drop_zeros : (n k : ℕ) → drop k (replicate {A = ℕ} n 0) ≡ replicate (n - k) 0
    drop_zeros n zero = let e : n - 0 ≡ n = omega arith in rw e
    drop_zeros zero (suc k) = let e : 0 - suc k ≡ 0 = omega arith in rw e
    drop_zeros (suc n) (suc k) = let e : suc n - suc k ≡ n - k = omega arith in rw e (drop_zeros n k)
