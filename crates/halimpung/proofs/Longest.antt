-- What is printed has its room. Assumes nothing.
use Rattle.std.specs.Prelude.{Result, Ok, Err}
use Rattle.reader.specs.Said.{answer_by}
use Rattle.record.specs.Records.{zero_record}
use Rattle.record.specs.declared.Record.{Record}
use Rattle.refusal.specs.declared.Refusal.{Refusal}
use Prim.Native.Nat.{ℕ, ◌+◌, ◌≤◌}
use Rattle.reader.specs.Refusals.{Answer}
use Rattle.report.specs.Program.{heard_of, printed_of}
use Rattle.report.specs.Report.{two_lines, report_of}
use Rattle.report_brief.proofs.Sizes.{number_length, six_length}
use Rattle.report_brief.specs.Brief.{six_lines}
use Rattle.text_keyline.specs.Keylines.{line_text}
use Rattle.text.specs.Bytes.{bytes}
use Rattle.text.specs.Digits.{whole_text}
use lib.Dec.{eqb}
use lib.ListN.{length, length-append, take, drop}
use lib.Seq.{sets, sets-eq, take-append_seam}
use mathlib.Core.Bool.{Bool, true, false, cond}
use mathlib.Core.List.{List}
use mathlib.Core.Path.{◌≡◌, refl, ap, ap₂, ◌∙◌}
use native.Mathlib.Omega.{arith}

two_length : (number detail : ℕ) → length (two_lines number detail) ≤ 89
unfolding two_lines
two_length number detail =
    let first = line_text (bytes "result=") (whole_text 9 number) in
    let second = line_text (bytes "detail=") (whole_text 9 detail) in
    omega (arith, length-append first second, number_length (bytes "result=") number, number_length (bytes "detail=") detail)

either : (b : Bool) (x y : List ℕ) → length x ≤ 89 → length y ≤ 89 → length (cond b x y) ≤ 89
either true x y h k = h
either false x y h k = k

-- the six lines of a record, or the two of a refusal
longest : (a : Answer) → length a.content.unit ≡ 16 → length (report_of a) ≤ 89
unfolding report_of
longest a h =
    either
    (eqb a.number 0)
    (six_lines a.content)
    (two_lines a.number a.detail)
    (six_length a.content h)
    (two_length a.number a.detail)

-- a record's unit has its room, and so has that of a refusal
room_of_unit : (x : Result Record Refusal) → ((r : Record) → x ≡ Ok r → length r.unit ≡ 16) → length (answer_by x).content.unit ≡ 16
unfolding zero_record
room_of_unit (Ok r) h = h r refl
room_of_unit (Err e) h = refl

-- put into a room of as many bytes
pub all_printed : (plan input : List ℕ) (x : Result Record Refusal) (n : ℕ) (l room : List ℕ)
    → ((r : Record) → x ≡ Ok r → length r.unit ≡ 16) → answer_by x ≡ heard_of plan input
    → (t : List ℕ) → t ≡ report_of (answer_by x)
    → (n ≡ 0 + length t) × (room ≡ sets l 0 t) → length l ≡ 89 → take n room ≡ printed_of plan input
unfolding printed_of
all_printed plan input x n l room u h t e p w =
    let k : n ≡ length t = omega (arith, p.0) in
    let z : 0 + length t ≤ length l = omega (arith, longest (answer_by x) (room_of_unit x u), ap length e, w) in
    ap₂ (λ (i : ℕ) (x : List ℕ). take i x) k (p.1 ∙ sets-eq t l 0 z) ∙ take-append_seam t (drop (0 + length t) l) ∙ e ∙ ap report_of h
