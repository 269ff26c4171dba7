-- THE LAW: the text of a valid value of any kind reads back as that value. One line for each shape, then once for all kinds.
-- Assumes nothing.
use Rattle.std.specs.Prelude.{None, Option, Some}
use Prim.Native.Nat.{ℕ, ◌≤◌}
use Rattle.value_date.proofs.Back.{date_back, date_length}
use Rattle.value_list.proofs.RoundTrip.{numbers_back, gradients_back}
use Rattle.value_list.proofs.Texts.{numbers_some, gradients_some}
use Rattle.value_name.proofs.RoundTrip.{identifier_back, identifier_length, sequence_back, unit_size}
use Rattle.value_name.specs.declared.MessageType.{MessageType}
use Rattle.value_number.proofs.RoundTrip.{number_back, number_some, number_empty}
use Rattle.value_number.specs.Number.{scaled, fraction_of, joined_digits, unsigned_of, plus, minus, number_of, number_text}
use Rattle.text.proofs.Numerals.{whole_some}
use Rattle.text.proofs.Tables.{all_at}
use Rattle.text.specs.Bytes.{all, upto}
use Rattle.text.specs.Digits.{number_from, digits_of}
use Rattle.value.specs.Kinds.{id_from, count_from, date_from, amount_from, got_word, list_from, triples_from, setting_from, voltage, regulator, change, reactive}
use Rattle.value.specs.Kinds.{shape_of, value_of}
use Rattle.value.specs.Texts.{Rooms, value_text}
use Rattle.value.specs.Valid.{Kept, Fits, Holds}
use Rattle.value.specs.Valid.Fits.{id, unit, when, amount, count, reason, note, chosen, profile, bands, triples, in_kv, kv_word, in_rat, rat_word}
use Rattle.value.specs.Valid.Fits.{in_change, in_mvar, mvar_word}
use Rattle.value.specs.Valid.Holds.{blank, filled}
use Rattle.value.specs.declared.Kind.{Kind}
use Rattle.value.specs.declared.Shape.{Shape}
use Rattle.value.specs.declared.Value.{Value}
use Rattle.value.specs.declared.Value.TheVariants.{Unit}
use Rattle.value_word.proofs.RoundTrip.{word_back, word_some}
use Rattle.value_word.proofs.Volts.{volt_back}
use Rattle.value_word.specs.Words.{command_words, mode_words, setting_words, words, word, word_in, volt_in}
use borrow.Author.Tests.{le-leb, ne_eqb}
use lib.IntN.{ℤ}
use lib.ListN.{length, take}
use lib.Seq.{length-take-le}
use mathlib.Core.Bool.{Bool, true, false, and-false}
use mathlib.Core.List.{List, []}
use mathlib.Core.Path.{◌≡◌, refl, ap, ◌∙◌}
use native.Mathlib.Omega.{arith}

-- ---- no word is a number: a test of the whole table

abbrev is_none : Option ℤ → Bool
is_none (Some v) = false
is_none None = true

none_is : (n : Option ℤ) → is_none n ≡ true → n ≡ None
none_is (Some v) e = let z : ◌≡◌ {A = ℕ} 0 1 = cc in absurd (omega arith)
none_is None e = refl

no_numbers : all (λ (s : List ℕ). is_none (number_of s)) words ≡ true
unfolding all words command_words mode_words setting_words number_of unsigned_of joined_digits plus minus fraction_of scaled digits_of number_from upto
no_numbers = refl

word_no_number : (w : ℕ) → number_of (word w) ≡ None
unfolding word
word_no_number w = none_is (number_of (word w)) (all_at (λ (s : List ℕ). is_none (number_of s)) words w [] no_numbers (ap is_none number_empty))

-- ---- the text of a value that fits a shape, read as that shape

module _ (t : MessageType) (r : Rooms) where
  kept_length : (most n : ℕ) (room : List ℕ) → Kept most room n → length (take n room) ≡ n
  kept_length most n room k = length-take-le n room k.inside

  -- a word beside a number of its own quantity
  word_setting : (make : ℤ → Value) (w : ℕ) (d : Option ℕ) → d ≡ Some w → setting_from make (number_of (word w)) (got_word d) ≡ Some (Value.Word w)
  word_setting make w d e = ap (λ (n : Option ℤ). setting_from make n (got_word d)) (word_no_number w) ∙ ap got_word e

  pub back : (s : Shape) (v : Value) → Fits t r s v → shape_of s (value_text t r v) ≡ Some v
  unfolding shape_of value_text
  back s v (id {n} h) = ap id_from (identifier_back t n h)
  back s v (unit {n} h u) = rw u (ap (λ (m : ℕ). Some (Unit m)) (length-take-le n r.unit h))
  back s v (when {d} e) = ap date_from (date_back d e)
  back s v (amount {v = x} h) = ap amount_from (number_back x h)
  back s v (count {n} h) = ap count_from (sequence_back n h)
  back s v (reason {n} k) = rw (kept_length 128 n r.reason k, le-leb n 128 k.few)
  back s v (note {n} k) = rw (kept_length 256 n r.note k, le-leb n 256 k.few)
  back s v (chosen {first = a} {last = b} {w} p q u d) = ap got_word (word_back a b w p q u d)
  back s v (profile {x} f) = ap list_from (numbers_back 1 4 x (omega arith) (omega arith) f)
  back s v (bands {x} f) = ap list_from (numbers_back 2 2 x (omega arith) (omega arith) f)
  back s v (triples {n} f) = ap triples_from (gradients_back r.gradients n f)
  back s v (in_kv {v = x} h) = ap (λ (n : Option ℤ). setting_from voltage n (got_word (volt_in (number_text x)))) (number_back x h)
  back s v (kv_word {w} a b) = word_setting voltage w _ (volt_back w a b)
  back s v (in_rat {v = x} h) = ap (λ (n : Option ℤ). setting_from regulator n (got_word (volt_in (number_text x)))) (number_back x h)
  back s v (rat_word {w} a b) = word_setting regulator w _ (volt_back w a b)
  back s v (in_change {v = x} h) = ap (λ (n : Option ℤ). setting_from change n None) (number_back x h)
  back s v (in_mvar {v = x} h) = ap (λ (n : Option ℤ). setting_from reactive n (got_word (word_in 25 27 (number_text x)))) (number_back x h)
  back s v (mvar_word {w} a b) = word_setting reactive w _ (word_back 25 27 w (omega arith) a b (omega arith))

  -- it is never empty, so it is not taken for a blank
  pub not_empty : (s : Shape) (v : Value) → Fits t r s v → 1 ≤ length (value_text t r v)
  unfolding value_text
  not_empty s v (id {n} h) = omega (arith, identifier_length t n)
  not_empty s v (unit {n} h u) = (unit_size (take n r.unit) u).0
  not_empty s v (when {d} e) = omega (arith, date_length d)
  not_empty s v (amount {v = x} h) = number_some x
  not_empty s v (count {n} h) = whole_some 9 n
  not_empty s v (reason {n} k) = omega (arith, kept_length 128 n r.reason k, k.some)
  not_empty s v (note {n} k) = omega (arith, kept_length 256 n r.note k, k.some)
  not_empty s v (chosen {first = a} {last = b} {w} p q u d) = word_some w (omega arith) (omega arith)
  not_empty s v (profile {x} f) = numbers_some x (omega (arith, f.enough))
  not_empty s v (bands {x} f) = numbers_some x (omega (arith, f.enough))
  not_empty s v (triples {n} f) = gradients_some r.gradients n f
  not_empty s v (in_kv {v = x} h) = number_some x
  not_empty s v (kv_word {w} a b) = word_some w (omega arith) (omega arith)
  not_empty s v (in_rat {v = x} h) = number_some x
  not_empty s v (rat_word {w} a b) = word_some w (omega arith) (omega arith)
  not_empty s v (in_change {v = x} h) = number_some x
  not_empty s v (in_mvar {v = x} h) = number_some x
  not_empty s v (mvar_word {w} a b) = word_some w (omega arith) (omega arith)

  pub value_back : (k : Kind) (v : Value) → Holds t r k v → value_of k (value_text t r v) ≡ Some v
  unfolding value_of value_text
  value_back k v (blank b) = rw b
  value_back k v (filled f) =
      let ne : length (value_text t r v) ≡ 0 → ⊥ = λ z. omega (arith, not_empty k.shape v f) in
      simp (ne_eqb (length (value_text t r v)) 0 ne, and-false) (back k.shape v f)
