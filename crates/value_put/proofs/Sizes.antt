-- How long the text of a value is at most: gradients have the longest. Assumes nothing.
use Prim.Native.Nat.{ℕ, ◌≤◌}
use Rattle.value_date.proofs.Back.{date_length}
use Rattle.value_list.proofs.Texts.{numbers_short, gradients_short}
use Rattle.value_name.proofs.RoundTrip.{identifier_length, sequence_length}
use Rattle.value_name.specs.declared.MessageType.{MessageType}
use Rattle.value_number.proofs.RoundTrip.{number_short}
use Rattle.value_put.specs.Rooms.{Narrow}
use Rattle.value.specs.Texts.{Rooms, value_text}
use Rattle.value.specs.declared.Value.{Value}
use Rattle.value.specs.declared.Value.TheVariants.{Blank, Id, Unit, When, Amount, Count, Reason, Note, Word, List as Numbers, Triples, Voltage, Regulator}
use Rattle.value.specs.declared.Value.TheVariants.{Change, Reactive}
use Rattle.value_word.proofs.RoundTrip.{word_short}
use lib.ListN.{length, take, length-take}
use mathlib.Core.List.{List}
use mathlib.Core.Path.{◌≡◌}
use native.Mathlib.Omega.{arith}

room_short : (n m : ℕ) (room : List ℕ) → length room ≤ m → length (take n room) ≤ m
room_short n m room h = omega (arith, length-take n room)

pub text_short : (t : MessageType) (r : Rooms) (v : Value) → Narrow r → length r.gradients ≡ 16
    → length (value_text t r v) ≤ 623
unfolding value_text
text_short t r Blank w g = omega arith
text_short t r (Id n) w g = omega (arith, identifier_length t n)
text_short t r (Unit n) w g = omega (arith, room_short n 16 r.unit w.unit_few)
text_short t r (When d) w g = omega (arith, date_length d)
text_short t r (Amount v) w g = omega (arith, number_short v)
text_short t r (Count n) w g = omega (arith, sequence_length n)
text_short t r (Reason n) w g = omega (arith, room_short n 128 r.reason w.reason_few)
text_short t r (Note n) w g = omega (arith, room_short n 256 r.note w.note_few)
text_short t r (Word x) w g = omega (arith, word_short x)
text_short t r (Numbers x) w g = omega (arith, numbers_short x)
text_short t r (Triples n) w g = gradients_short r.gradients n g
text_short t r (Voltage v) w g = omega (arith, number_short v.0)
text_short t r (Regulator v) w g = omega (arith, number_short v.0)
text_short t r (Change v) w g = omega (arith, number_short v.0)
text_short t r (Reactive v) w g = omega (arith, number_short v.0)
