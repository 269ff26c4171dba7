-- What is written reads back, what is read is in range, and every text that is written can stand as a value. Assumes nothing.
use Rattle.std.specs.Prelude.{None, Option, Some}
use Prim.Native.Nat.{ℕ, ◌+◌, ◌-◌, ◌^◌, ◌≤◌, ◌<◌}
use Rattle.value_name.proofs.Units.{unit_tells, by_kind}
use Rattle.value_name.specs.Names.{prefix_of, exactly, identifier_of, identifier_text, is_unit_byte, is_unit, sequence_of, sequence_text}
use Rattle.value_name.specs.declared.MessageType.{MessageType}
use Rattle.value_name.specs.declared.MessageType.TheVariants.{Cb, Rc, Mg, Eb, Lb, Sr, Vq, Ri, Qr}
use Rattle.text.proofs.Cuts.{all_append, all_none, all_weaker, same_refl}
use Rattle.text.proofs.Numerals.{digit_range, below, length_text, all_text, text_back, whole, whole_length, whole_digits, whole_back, first_digit}
use Rattle.text.proofs.Tests.{by_le, and_parts, within_tells}
use Rattle.text.proofs.Trims.{tidy_none}
use Rattle.text.specs.Bytes.{same, all, is, within, is_digit, is_blank, is_plain, tidy}
use Rattle.text.specs.Digits.{digits_text, whole_text}
use borrow.Author.Tests.{ne_eqb, le-ltb}
use lib.Dec.{eqb, ltb}
use lib.ListN.{length, get_or, take, drop, length-append}
use lib.Seq.{take_at, drop_at}
use mathlib.Core.Bool.{Bool, true, false, ◌&&◌, cond, and-false}
use mathlib.Core.List.{List, ◌++◌}
use mathlib.Core.Path.{◌≡◌, refl, sym}
use native.Mathlib.Omega.{arith}

-- ---- printed bytes other than the blank

abbrev is_dark : ℕ → Bool
is_dark b = within 33 126 b

dark_tidy : (s : List ℕ) → all is_dark s ≡ true → tidy s ≡ true
dark_tidy s h =
    tidy_none s
    (all_weaker is_plain is_dark (λ b e. let r = (within_tells 33 126 b).0 e in (within_tells 32 126 b).1 (omega arith, r.1)) s h)
    (all_none is_blank is_dark (λ b e. let r = (within_tells 33 126 b).0 e in ne_eqb b 32 (λ z. omega arith)) s h)

digits_dark : (s : List ℕ) → all is_digit s ≡ true → all is_dark s ≡ true
digits_dark s h =
    all_weaker is_dark is_digit (λ b e. let r = digit_range b e in (within_tells 33 126 b).1 (omega arith, omega arith)) s h

unit_dark : (b : ℕ) → is_unit_byte b ≡ true → is_dark b ≡ true
unit_dark b e =
    (within_tells 33 126 b).1
    (by_kind b ((unit_tells b).0 e) (λ h. omega arith) (λ h. omega arith) (λ h. omega arith) (λ h. omega arith))

-- ---- identifier

-- three bytes, none of them a blank
prefix_is : (t : MessageType) → (length (prefix_of t) ≡ 3) × (all is_dark (prefix_of t) ≡ true)
unfolding all
prefix_is Cb = (refl, refl)
prefix_is Rc = (refl, refl)
prefix_is Mg = (refl, refl)
prefix_is Eb = (refl, refl)
prefix_is Lb = (refl, refl)
prefix_is Sr = (refl, refl)
prefix_is Vq = (refl, refl)
prefix_is Ri = (refl, refl)
prefix_is Qr = (refl, refl)

-- a choice that gives a number is that of the number
pub took : (t : Bool) (d : Option ℕ) (n : ℕ) → cond t d None ≡ Some n → (t ≡ true) × (d ≡ Some n)
took true d n e = (refl, e)
took false d n e = let z : ◌≡◌ {A = ℕ} 0 1 = cc in absurd (omega arith)

pub left : (t : Bool) (d : Option ℕ) (n : ℕ) → cond t None d ≡ Some n → d ≡ Some n
left true d n e = let z : ◌≡◌ {A = ℕ} 0 1 = cc in absurd (omega arith)
left false d n e = e

pub identifier_back : (t : MessageType) (n : ℕ) → n < 10 ^ 10 → identifier_of t (identifier_text t n) ≡ Some n
unfolding identifier_of identifier_text exactly
identifier_back t n h =
    let p = (prefix_is t).0 in
    let d = digits_text 10 n in
    rw (take_at (prefix_of t) d 3 p, drop_at (prefix_of t) d 3 p, same_refl (prefix_of t), length_text 10 n) (text_back 10 10 n (omega arith) (omega arith) h)

pub identifier_range : (t : MessageType) (s : List ℕ) (n : ℕ) → identifier_of t s ≡ Some n → n < 10 ^ 10
unfolding identifier_of exactly
identifier_range t s n e =
    below 10 (drop 3 s) n (took (eqb (length (drop 3 s)) 10) _ n (took (same (take 3 s) (prefix_of t)) _ n e).1).1

pub identifier_length : (t : MessageType) (n : ℕ) → length (identifier_text t n) ≡ 13
unfolding identifier_text
identifier_length t n =
    omega (arith, length-append (prefix_of t) (digits_text 10 n), (prefix_is t).0, length_text 10 n)

pub identifier_tidy : (t : MessageType) (n : ℕ) → tidy (identifier_text t n) ≡ true
unfolding identifier_text
identifier_tidy t n =
    dark_tidy (prefix_of t ++ digits_text 10 n)
    (all_append is_dark (prefix_of t) (digits_text 10 n) (prefix_is t).1 (digits_dark (digits_text 10 n) (all_text 10 n)))

-- ---- sequence

-- digits without leading zeros do not begin with 0, unless they are one
whole_first : (k n : ℕ) → n < 10 ^ (k + 1) → ltb 1 (length (whole_text k n)) && is 48 (get_or (whole_text k n) 0 0) ≡ false
whole_first k n h =
    let w = whole k n in
    by_le w.count 1 (λ o. rw (w.text, length_text w.count n, le-ltb 1 w.count o))
    (λ o. let j : w.count ≡ (w.count - 1) + 1 = omega arith in
    let f = first_digit (w.count - 1) n (w.needed o) (rw (sym j) (w.holds h)) in
    rw (w.text, ne_eqb (get_or (digits_text w.count n) 0 0) 48 (rw (sym j) at f)) (and-false (ltb 1 (length (digits_text w.count n)))))

pub sequence_back : (n : ℕ) → n < 10 ^ 10 → sequence_of (sequence_text n) ≡ Some n
unfolding sequence_of
sequence_back n h = rw (whole_first 9 n h) (whole_back 10 9 n (omega arith) h)

pub sequence_range : (s : List ℕ) (n : ℕ) → sequence_of s ≡ Some n → n < 10 ^ 10
unfolding sequence_of
sequence_range s n e = below 10 s n (left (ltb 1 (length s) && is 48 (get_or s 0 0)) _ n e)

pub sequence_tidy : (n : ℕ) → tidy (sequence_text n) ≡ true
sequence_tidy n = dark_tidy (whole_text 9 n) (digits_dark (whole_text 9 n) (whole_digits 9 n))

pub sequence_length : (n : ℕ) → length (sequence_text n) ≤ 10
sequence_length n = omega (arith, whole_length 9 n)

-- ---- unit

pub unit_tidy : (s : List ℕ) → is_unit s ≡ true → tidy s ≡ true
unfolding is_unit
unit_tidy s e =
    dark_tidy s (all_weaker is_dark is_unit_byte unit_dark s (and_parts (within 1 16 (length s)) (all is_unit_byte s) e).1)

pub unit_size : (s : List ℕ) → is_unit s ≡ true → (1 ≤ length s) × (length s ≤ 16)
unfolding is_unit
unit_size s e =
    (within_tells 1 16 (length s)).0 (and_parts (within 1 16 (length s)) (all is_unit_byte s) e).0
