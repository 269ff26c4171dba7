-- How long the lines are at most. Assumes nothing.
use Prim.Native.Nat.{ℕ, ◌+◌, ◌≤◌}
use Rattle.report_brief.specs.declared.Brief.{Brief}
use Rattle.layout.specs.Layouts.{type_of}
use Rattle.value_name.specs.Types.{code_of}
use Rattle.value_name.specs.declared.MessageType.{MessageType}
use Rattle.value_name.specs.declared.MessageType.TheVariants.{Cb, Rc, Mg, Eb, Lb, Sr, Vq, Ri, Qr}
use Rattle.record.specs.declared.Record.{Record}
use Rattle.report_brief.specs.Brief.{instant_text, told_of, brief_of, six_of, six_lines}
use Rattle.value_ask.specs.Values.{is_filled, instant_in}
use Rattle.text.proofs.Numerals.{whole_length}
use Rattle.text.proofs.Tests.{by_test}
use Rattle.text.specs.Bytes.{bytes}
use Rattle.text_keyline.proofs.Putting.{line_length}
use Rattle.text_keyline.specs.Keylines.{line_text}
use Rattle.text.specs.Digits.{whole_text}
use Rattle.value.specs.declared.Value.{Value}
use lib.ListN.{length, take, length-append, length-take}
use mathlib.Core.List.{List, ◌++◌}
use mathlib.Core.Path.{◌≡◌, refl}
use native.Mathlib.Omega.{arith}

pub code_length : (t : MessageType) → length (code_of t) ≡ 2
code_length Cb = refl
code_length Rc = refl
code_length Mg = refl
code_length Eb = refl
code_length Lb = refl
code_length Sr = refl
code_length Vq = refl
code_length Ri = refl
code_length Qr = refl

pub number_length : (key : List ℕ) (n : ℕ) → length (line_text key (whole_text 9 n)) ≤ length key + 11
number_length key n = omega (arith, line_length key (whole_text 9 n), whole_length 9 n)

pub unit_length : (n : ℕ) (room : List ℕ) → length room ≡ 16 → length (take n room) ≤ 16
unit_length n room h = omega (arith, length-take n room)

pub instant_length : (v : Value) → length (instant_text v) ≤ 10
unfolding instant_text
instant_length v = by_test (is_filled v) (λ e. rw e (omega (arith, whole_length 9 (instant_in v)))) (λ e. rw e (omega arith))

-- the first three lines
abbrev pub head_text : MessageType → ℕ → List ℕ
head_text t n = line_text (bytes "result=") (bytes "0") ++ line_text (bytes "type=") (code_of t) ++ line_text (bytes "number=") (whole_text 9 n)

abbrev pub unit_text : Brief → List ℕ
unit_text b = line_text (bytes "unit=") (take b.size b.unit)

abbrev pub start_text : Brief → List ℕ
start_text b = line_text (bytes "start=") (instant_text b.start)

abbrev pub end_text : Brief → List ℕ
end_text b = line_text (bytes "end=") (instant_text b.end)

three_length : (a b c : List ℕ) → length a ≡ 9 → length b ≡ 8 → length c ≤ 18 → length (a ++ b ++ c) ≤ 35
three_length a b c f g h = omega (arith, length-append (a ++ b) c, length-append a b)

pub head_length : (t : MessageType) (n : ℕ) → length (head_text t n) ≤ 35
head_length t n =
    let two : length (line_text (bytes "type=") (code_of t)) ≡ 8 = omega (arith, line_length (bytes "type=") (code_of t), code_length t) in
    three_length
    (line_text (bytes "result=") (bytes "0"))
    (line_text (bytes "type=") (code_of t))
    (line_text (bytes "number=") (whole_text 9 n))
    refl
    two
    (number_length (bytes "number=") n)

pub unit_line : (n : ℕ) (room : List ℕ) → length room ≡ 16 → length (line_text (bytes "unit=") (take n room)) ≤ 22
unit_line n room h = omega (arith, line_length (bytes "unit=") (take n room), unit_length n room h)

pub instant_line : (key : List ℕ) (v : Value) → length (line_text key (instant_text v)) ≤ length key + 11
instant_line key v = omega (arith, line_length key (instant_text v), instant_length v)

all_length : (a b c d : List ℕ) → length a ≤ 35 → length b ≤ 22 → length c ≤ 17 → length d ≤ 15 → length (a ++ b ++ c ++ d) ≤ 89
all_length a b c d f g h k = omega (arith, length-append (a ++ b ++ c) d, length-append (a ++ b) c, length-append a b)

-- the six lines
pub six_of_lem : (b : Brief) → length b.unit ≡ 16 → length (six_of b) ≤ 89
unfolding six_of
six_of_lem b h =
    all_length
    (head_text (type_of b.layout) b.number)
    (unit_text b)
    (start_text b)
    (end_text b)
    (head_length (type_of b.layout) b.number)
    (unit_line b.size b.unit h)
    (instant_line (bytes "start=") b.start)
    (instant_line (bytes "end=") b.end)

pub six_length : (r : Record) → length r.unit ≡ 16 → length (six_lines r) ≤ 89
unfolding told_of brief_of
six_length r h = six_of_lem (brief_of r) h
