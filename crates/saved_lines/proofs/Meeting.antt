-- The ways through the readers of one line: its amount, its letter, and the line as it is met. Assumes nothing.
use Rattle.std.specs.Prelude.{None, Option, Some}
use Prim.Native.Nat.{ℕ, ◌+◌, ◌-◌, ◌≤◌}
use Rattle.saved_lines.proofs.OneLine.{whole_own}
use Rattle.saved_lines.specs.Values.{key_text, key_room, zero_amount, amount_of, letter_of, value_of, line_value, met_in}
use Rattle.saved_lines.specs.declared.Key.{Key}
use Rattle.saved_lines.specs.declared.Met.TheVariants.{Says, Wrong}
use Rattle.saved_lines.specs.declared.Sort.{Sort}
use Rattle.saved_lines.specs.declared.keys.KeyText.{KeyText}
use Rattle.text.proofs.Tests.{by_test, or_parts, untold, within_tells}
use Rattle.text.specs.Bytes.{bytes, is, within, any, upto, same, starts, first_of}
use Rattle.text.specs.Puts.{room_of}
use Rattle.text_keyline.proofs.Values.{value_at}
use Rattle.text_keyline.specs.Keylines.{line_of, value_in, whole_in}
use Rattle.value_bounds.specs.Bounds.{most_amount}
use borrow.Author.Tests.{ltb-true, ltb-false}
use lib.Dec.{ltb}
use lib.ListN.{length, take, drop, replicate}
use lib.Seq.{take_at}
use mathlib.Core.Bool.{Bool, true, false, ◌&&◌, ◌||◌, cond}
use mathlib.Core.List.{List}
use mathlib.Core.Path.{◌≡◌, refl, sym, ap, ◌∙◌}
use native.Mathlib.Omega.{arith}

-- ---- a key

-- a key is the front of its room
front_key : (t : List ℕ) → take (length t) (room_of 8 t) ≡ t
unfolding room_of
front_key t = take_at t (replicate (8 - length t) 0) (length t) refl

pub key_front : (k : Key) (key : KeyText) (front : List ℕ) → key ≡ key_room (key_text k) → front ≡ take key.size key.room → front ≡ key_text k
key_front k key front e f = f ∙ ap (λ (x : KeyText). take x.size x.room) e ∙ front_key (key_text k)

-- ---- an amount

-- a whole number that was read is not above the greatest
pub whole_most : (lo hi : ℕ) (s : List ℕ) (d : Option ℕ) (n : ℕ) → d ≡ whole_in lo hi s → d ≡ Some n → n ≤ hi
whole_most lo hi s d n told e = (whole_own lo hi s n (sym told ∙ e)).to

module _ (s : List ℕ) (b : Bool) (told : b ≡ starts (bytes "-") s) where
  module _ (minus : b ≡ true) (t : List ℕ) (rest : t ≡ drop 1 s) (d : Option ℕ) (read : d ≡ whole_in 1 most_amount t) where
    pub under_not : d ≡ None → None ≡ amount_of s
    unfolding amount_of
    under_not e = rw (sym told, minus, sym rest, sym read, e)

    pub under_is : (n : ℕ) → d ≡ Some n → Some (zero_amount - n) ≡ amount_of s
    unfolding amount_of
    under_is n e = rw (sym told, minus, sym rest, sym read, e)

  module _ (plain : b ≡ false) (d : Option ℕ) (read : d ≡ whole_in 0 most_amount s) where
    pub over_not : d ≡ None → None ≡ amount_of s
    unfolding amount_of
    over_not e = rw (sym told, plain, sym read, e)

    pub over_is : (n : ℕ) → d ≡ Some n → Some (zero_amount + n) ≡ amount_of s
    unfolding amount_of
    over_is n e = rw (sym told, plain, sym read, e)

-- ---- a kind's letter

module _ (s : List ℕ) (m : Bool) (market : m ≡ same (bytes "M") s) where
  pub letter_market : m ≡ true → Some 0 ≡ letter_of s
  unfolding letter_of
  letter_market y = rw (sym market, y)

  module _ (other : m ≡ false) (f : Bool) (mfrr : f ≡ same (bytes "F") s) where
    pub letter_mfrr : f ≡ true → Some 1 ≡ letter_of s
    unfolding letter_of
    letter_mfrr y = rw (sym market, other, sym mfrr, y)

    pub letter_none : f ≡ false → None ≡ letter_of s
    unfolding letter_of
    letter_none n = rw (sym market, other, sym mfrr, n)

-- ---- a line

-- a value below the least or above the greatest is out of its bounds
out_told : (lo hi v : ℕ) → (ltb v lo || ltb hi v) ≡ true → within lo hi v ≡ false
out_told lo hi v e =
    untold (within_tells lo hi v) (λ h.
    by_test (ltb v lo)
    (λ y. omega (arith, ltb-true v lo y, h.0))
    (λ n. omega (arith, ltb-true hi v (rw n at e), h.1)))

in_told : (lo hi v : ℕ) → (ltb v lo || ltb hi v) ≡ false → within lo hi v ≡ true
in_told lo hi v e =
    let p = or_parts (ltb v lo) (ltb hi v) e in
    (within_tells lo hi v).1 (ltb-false v lo p.0, ltb-false hi v p.1)

-- a line ends at its LF
line_end : (key s : List ℕ) (e : ℕ) → line_of key s ≡ Some e → e ≡ first_of 10 s
unfolding line_of
line_end key s e h = at_test (starts key s && any (is 10) s) h
  where
    at_test : (t : Bool) → cond t (Some (first_of 10 s)) None ≡ Some e → e ≡ first_of 10 s
    at_test true h = cc
    at_test false h = let z : ◌≡◌ {A = ℕ} 0 1 = cc in absurd (omega arith)

module _ (k : Key) (x : Sort) (lo hi : ℕ) (s : List ℕ) (key : KeyText) (key_is : key ≡ key_room (key_text k)) where
  module _ (front : List ℕ) (front_is : front ≡ take key.size key.room) (l : Option ℕ) (line : l ≡ line_of front s) where
    line_here : line_of (key_text k) s ≡ l
    line_here = sym (line ∙ ap (λ (t : List ℕ). line_of t s) (key_front k key front key_is front_is))

    pub no_line : l ≡ None → Wrong ≡ met_in (line_value k x lo hi s) s
    unfolding line_value
    no_line n = rw (line_here, n)

    module _ (e : ℕ) (ends : l ≡ Some e) (upper text : List ℕ) (upper_is : upper ≡ take e s) (text_is : text ≡ drop key.size upper) where
      ends_first : e ≡ first_of 10 s
      ends_first = line_end (key_text k) s e (line_here ∙ ends)

      value_here : text ≡ value_in (key_text k) s
      value_here =
          value_at s upper text e key.size ends_first upper_is text_is
          ∙ ap (λ (y : KeyText). drop y.size (upto (is 10) s)) key_is

      module _ (d : Option ℕ) (read : d ≡ value_of x text) where
        pub no_value : d ≡ None → Wrong ≡ met_in (line_value k x lo hi s) s
        unfolding line_value
        no_value n = rw (line_here, ends, sym value_here, sym read, n)

        module _ (v : ℕ) (is_value : d ≡ Some v) where
          pub value_out : (ltb v lo || ltb hi v) ≡ true → Wrong ≡ met_in (line_value k x lo hi s) s
          unfolding line_value
          value_out h = rw (line_here, ends, sym value_here, sym read, is_value, out_told lo hi v h)

          pub value_in_lem : (ltb v lo || ltb hi v) ≡ false → Says v e ≡ met_in (line_value k x lo hi s) s
          unfolding line_value
          value_in_lem h = rw (line_here, ends, sym value_here, sym read, is_value, in_told lo hi v h, ends_first)
