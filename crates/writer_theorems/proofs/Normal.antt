-- THE THEOREMS: the written form of what was read is read as the same record at the same address, and writing that again changes nothing.
-- Assumes nothing.
use Prim.Native.Nat.{ℕ}
use Rattle.layout.specs.Rows.{text_at}
use Rattle.layout.specs.declared.Layout.{Layout}
use Rattle.value_name.specs.declared.MessageType.{MessageType}
use Rattle.plan.specs.Plans.{plan_of, sought_of}
use Rattle.plan.specs.Plans.{SoughtSaid}
use Rattle.reader.proofs.Firsts.{accepted_none, numbers}
use Rattle.reader.proofs.Chosen.{type_in}
use Rattle.reader.specs.Messages.{given, layout_in, values_of, column_record, good_of}
use Rattle.reader.specs.Reader.{body_column, record_in, message_of, unit_in, planned, answer_at, read_of}
use Rattle.reader.specs.Refusals.{accepted as taken}
use Rattle.reader.specs.Refusals.{Answer}
use Rattle.reader_theorems.proofs.Agreed.{Accepted, accepted}
use Rattle.reader_theorems.proofs.Held.{unit_text, record_valid}
use Rattle.reader_theorems.proofs.Validity.{good_of_lem, tidy_body}
use Rattle.record.specs.Records.{record_of}
use Rattle.record.specs.declared.Record.{Record}
use Rattle.writer_theorems.proofs.RoundTrip.{message_back, planned_back}
use Rattle.text.specs.Refusals.{NoneHolds, next}
use Rattle.record_valid.specs.Valid.{texts_of, ValidAs}
use Rattle.value.specs.declared.Value.{Value}
use Rattle.writer_form.specs.Written.{file_of}
use mathlib.Core.List.{List}
use mathlib.Core.Path.{◌≡◌, refl, sym, ap, ◌∙◌, subst}

-- ---- a message

module _ {t : MessageType} {unit file : List ℕ} (a : Accepted t unit file) where
  abbrev lay : Layout
  lay = layout_in t (given t file)

  abbrev col : List (List ℕ)
  col = body_column t file

  abbrev values : List Value
  values = good_of (values_of lay col)

  abbrev body : Record
  body = record_of lay col values

  body_as : ValidAs body values
  unfolding values_of record_in column_record
  body_as = record_valid lay col values (good_of_lem (values_of lay col) a.values) (tidy_body t file a.clean) a.rules

  unit_is : unit ≡ text_at (texts_of body values) 2
  unfolding values_of
  unit_is = a.unit_is ∙ sym (unit_text lay col values (good_of_lem (values_of lay col) a.values))

  written_message : message_of t unit (file_of body) ≡ taken body
  unfolding record_of
  written_message =
      subst (λ (x : MessageType). message_of x unit (file_of body) ≡ taken body) (type_in t (given t file)) (message_back body_as unit unit_is)

  body_read : record_in t file ≡ body
  unfolding record_in column_record
  body_read = refl

pub message_normal : (t : MessageType) (unit file : List ℕ) → (message_of t unit file).number ≡ 0
    → message_of t unit (file_of (message_of t unit file).content) ≡ message_of t unit file
message_normal t unit file h =
    let a = accepted t unit file h in
    let e : message_of t unit file ≡ taken (body a) = a.answered ∙ ap taken (body_read a) in
    ap (λ (x : Answer). message_of t unit (file_of x.content)) e ∙ written_message a ∙ sym e

-- ---- at an address of a plan

at_normal : (s : SoughtSaid) (file : List ℕ) → (answer_at s file).number ≡ 0 → NoneHolds (planned s file)
    → answer_at s (file_of (answer_at s file).content) ≡ answer_at s file
unfolding planned
at_normal s file h (next e (next d n)) =
    let here = planned_back s file e d in
    planned_back s (file_of (answer_at s file).content) e d
    ∙ ap (λ (x : Answer). message_of s.message (unit_in s) (file_of x.content)) here
    ∙ message_normal s.message (unit_in s) file (sym (ap (λ (x : Answer). x.number) here) ∙ h)
    ∙ sym here

pub normal_same : (ca ioa : ℕ) (plan file : List ℕ) → (read_of ca ioa plan file).number ≡ 0
    → read_of ca ioa plan (file_of (read_of ca ioa plan file).content) ≡ read_of ca ioa plan file
unfolding read_of answer_at
normal_same ca ioa plan file h =
    let s = sought_of ca ioa (plan_of plan) in
    at_normal s file h (accepted_none (planned s file) (record_in s.message file) (numbers s file) h)

pub normal_twice : (ca ioa : ℕ) (plan file : List ℕ) → (read_of ca ioa plan file).number ≡ 0
    → file_of (read_of ca ioa plan (file_of (read_of ca ioa plan file).content)).content ≡ file_of (read_of ca ioa plan file).content
normal_twice ca ioa plan file h = ap (λ (x : Answer). file_of x.content) (normal_same ca ioa plan file h)
