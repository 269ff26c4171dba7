-- What the reader's acceptance says of a file: what its message is, and what each field of its record was read from. Assumes nothing.
use Rattle.std.specs.Prelude.{Some}
use Prim.Native.Nat.{ℕ, zero, suc, ◌+◌, ◌<◌}
use Rattle.layout.proofs.Labels.{kinds_length, kind_at_lem}
use Rattle.layout.specs.Layouts.{kinds_of, kind_at, size_of}
use Rattle.layout.specs.Rows.{text_at}
use Rattle.layout.specs.declared.Layout.{Layout}
use Rattle.text_lines.specs.Entries.{Entry, value_at, column}
use Rattle.value_name.specs.declared.MessageType.{MessageType}
use Rattle.plan.specs.Plans.{plan_of, sought_of}
use Rattle.plan.specs.Plans.{SoughtSaid}
use Rattle.reader.proofs.Firsts.{accepted_none, numbers}
use Rattle.reader.specs.Messages.{values_of, is_bad, good_of, column_record}
use Rattle.reader.specs.Reader.{record_in, unit_in, planned, answer_at, read_of}
use Rattle.reader.specs.Refusals.{Answer}
use Rattle.reader_theorems.proofs.Agreed.{Accepted, accepted}
use Rattle.reader_theorems.proofs.Held.ReadAll.{end, next}
use Rattle.reader_theorems.proofs.Held.{ReadAll, read_all, read_at}
use Rattle.reader_theorems.proofs.Validity.{good_of_lem, message_at}
use Rattle.record.proofs.Fields.{field_value_at}
use Rattle.record.specs.Records.{field_of, record_of}
use Rattle.value.specs.Kinds.{value_of}
use Rattle.value.specs.declared.Kind.{Kind}
use Rattle.value.specs.declared.Value.{Value}
use lib.ListN.{length, get_or}
use mathlib.Core.Bool.{false}
use mathlib.Core.List.{List, [], ◌∷◌}
use mathlib.Core.Path.{◌≡◌, refl, sym, ap, ◌∙◌}
use native.Mathlib.Omega.{arith}

-- ---- a message

pub record Taken (a : Answer) (file : List ℕ) : Type 0 where
  pub message : MessageType
  pub unit : List ℕ
  pub agreed : Accepted message unit file
  pub content_is : a.content ≡ record_in message file

taken_at : (s : SoughtSaid) (file : List ℕ) → (answer_at s file).number ≡ 0 → Taken (answer_at s file) file
unfolding answer_at
taken_at s file h =
    let e = message_at s file (accepted_none (planned s file) (record_in s.message file) (numbers s file) h) in
    let a = accepted s.message (unit_in s) file (sym (ap (λ (x : Answer). x.number) e) ∙ h) in
    record { message = s.message; unit = unit_in s; agreed = a; content_is = ap (λ (x : Answer). x.content) (e ∙ a.answered) }

pub taken : (ca ioa : ℕ) (plan file : List ℕ) → (read_of ca ioa plan file).number ≡ 0 → Taken (read_of ca ioa plan file) file
unfolding read_of
taken ca ioa plan file h = taken_at (sought_of ca ioa (plan_of plan)) file h

-- ---- its fields

read_length : {ds : List Kind} {ts : List (List ℕ)} {vs : List Value} → ReadAll ds ts vs → length vs ≡ length ds
read_length end = refl
read_length (next e a) = ap suc (read_length a)

-- the value of a field is what its kind reads of its text
pub field_read : (l : Layout) (col : List (List ℕ)) → is_bad (values_of l col) ≡ false → (j : ℕ) → j < size_of l
    → value_of (kind_at l (suc j)) (text_at col (suc j)) ≡ Some (field_of (column_record l col).cells (suc j))
unfolding values_of column_record record_of
field_read l col e j h =
    let vs = good_of (values_of l col) in
    let r = read_all 1 (kinds_of l) col vs (good_of_lem (values_of l col) e) in
    let i : j < length (kinds_of l) = omega (arith, kinds_length l) in
    let m : j < length vs = omega (arith, read_length r) in
    rw (kind_at_lem l j, field_value_at vs j m) (read_at r j i)

-- its text is that of its entry
pub column_value : (k : ℕ) (ls : List (List ℕ)) (es : List Entry) (j : ℕ) → j < length ls → get_or (column k ls es) j [] ≡ value_at (k + j) es
unfolding column
column_value k [] es j h = absurd (omega arith)
column_value k (l ∷ ls) es zero h = let n : k ≡ k + 0 = omega arith in ap (λ (m : ℕ). value_at m es) n
column_value k (l ∷ ls) es (suc j) h =
    let n : suc k + j ≡ k + suc j = omega arith in
    column_value (suc k) ls es j (omega arith) ∙ ap (λ (m : ℕ). value_at m es) n
