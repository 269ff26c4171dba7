-- The text of a valid value can stand in a file: its bytes can be printed, it is trimmed, and it is short. One line for each shape.
-- Assumes nothing.
use Rattle.value_date.proofs.Back.{date_tidy}
use Rattle.value_list.proofs.Texts.{numbers_tidy, gradients_tidy}
use Rattle.value_name.proofs.RoundTrip.{identifier_tidy, sequence_tidy, unit_tidy}
use Rattle.value_name.specs.declared.MessageType.{MessageType}
use Rattle.value_number.proofs.RoundTrip.{number_bytes}
use Rattle.value_number.specs.Number.{number_text}
use Rattle.text.proofs.Cuts.{all_weaker, all_none}
use Rattle.text.proofs.Tests.{within_tells, untold, eqb_tells}
use Rattle.text.proofs.Trims.{tidy_none, tidy_empty}
use Rattle.text.specs.Bytes.{within, is_plain, is_blank, tidy}
use Rattle.value.specs.Texts.{Rooms, value_text}
use Rattle.value.specs.Valid.{Fits, Holds}
use Rattle.value.specs.Valid.Fits.{id, unit, when, amount, count, reason, note, chosen, profile, bands, triples, in_kv, kv_word, in_rat, rat_word}
use Rattle.value.specs.Valid.Fits.{in_change, in_mvar, mvar_word}
use Rattle.value.specs.Valid.Holds.{blank, filled}
use Rattle.value.specs.declared.Kind.{Kind}
use Rattle.value.specs.declared.Shape.{Shape}
use Rattle.value.specs.declared.Value.{Value}
use Rattle.value_word.proofs.RoundTrip.{word_tidy}
use lib.IntN.{ℤ}
use lib.ListN.{take}
use mathlib.Core.Bool.{true}
use mathlib.Core.Path.{◌≡◌}
use native.Mathlib.Omega.{arith}

number_tidy : (v : ℤ) → tidy (number_text v) ≡ true
number_tidy v =
    tidy_none (number_text v)
    (all_weaker is_plain (within 45 57) (λ b e. let h = (within_tells 45 57 b).0 e in (within_tells 32 126 b).1 (omega arith)) (number_text v) (number_bytes v))
    (all_none is_blank (within 45 57) (λ b e. let h = (within_tells 45 57 b).0 e in untold (eqb_tells b 32) (λ z. omega arith)) (number_text v) (number_bytes v))

module _ (t : MessageType) (r : Rooms) where
  pub shape_tidy : (s : Shape) (v : Value) → Fits t r s v → tidy (value_text t r v) ≡ true
  unfolding value_text
  shape_tidy s v (id {n} h) = identifier_tidy t n
  shape_tidy s v (unit {n} h u) = unit_tidy (take n r.unit) u
  shape_tidy s v (when {d} e) = date_tidy d
  shape_tidy s v (amount {v = x} h) = number_tidy x
  shape_tidy s v (count {n} h) = sequence_tidy n
  shape_tidy s v (reason {n} k) = k.is_tidy
  shape_tidy s v (note {n} k) = k.is_tidy
  shape_tidy s v (chosen {first = a} {last = b} {w} p q u d) = word_tidy w
  shape_tidy s v (profile {x} f) = numbers_tidy x
  shape_tidy s v (bands {x} f) = numbers_tidy x
  shape_tidy s v (triples {n} f) = gradients_tidy r.gradients n
  shape_tidy s v (in_kv {v = x} h) = number_tidy x
  shape_tidy s v (kv_word {w} a b) = word_tidy w
  shape_tidy s v (in_rat {v = x} h) = number_tidy x
  shape_tidy s v (rat_word {w} a b) = word_tidy w
  shape_tidy s v (in_change {v = x} h) = number_tidy x
  shape_tidy s v (in_mvar {v = x} h) = number_tidy x
  shape_tidy s v (mvar_word {w} a b) = word_tidy w

  pub value_tidy : (k : Kind) (v : Value) → Holds t r k v → tidy (value_text t r v) ≡ true
  unfolding value_text
  value_tidy k v (blank b) = tidy_empty
  value_tidy k v (filled f) = shape_tidy k.shape v f
