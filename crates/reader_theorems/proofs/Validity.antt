-- THE THEOREM: what the reader accepts is a valid record. Assumes nothing.
use Prim.Native.Nat.{ℕ, ◌≤◌}
use Rattle.layout.specs.Layouts.{labels_of}
use Rattle.layout.specs.declared.Layout.{Layout}
use Rattle.reader_accent.specs.Accents.{accents_of}
use Rattle.text_lines.proofs.Tidy.{column_tidy}
use Rattle.text_lines.specs.Lines.{allowed_upto}
use Rattle.value_name.specs.declared.MessageType.{MessageType}
use Rattle.plan.specs.Plans.{plan_of, sought_of}
use Rattle.plan.specs.Plans.{SoughtSaid}
use Rattle.reader_theorems.proofs.Agreed.{Accepted, accepted}
use Rattle.reader.proofs.Firsts.{accepted_none, numbers, answer_no}
use Rattle.reader_theorems.proofs.Held.{record_valid}
use Rattle.reader.specs.Messages.{given, layout_in, entries_in, values_of, is_bad, good_of, column_record}
use Rattle.reader.specs.Reader.{body_column, record_in, message_of, planned, answer_at, read_of, unit_in}
use Rattle.reader.specs.Refusals.{Answer}
use Rattle.record.specs.Records.{Typed}
use Rattle.record.specs.Records.Typed.{bad, good}
use Rattle.record_rules.specs.Rules.{broken_in}
use Rattle.text.specs.Bytes.{all, tidy}
use Rattle.text.specs.Refusals.{NoneHolds, next}
use Rattle.record_valid.specs.Valid.{Valid}
use lib.Dec.{eqb}
use lib.ListN.{length}
use mathlib.Core.Bool.{true, false, false≢true}
use mathlib.Core.List.{List}
use mathlib.Core.Path.{◌≡◌, refl, sym, ap, ◌∙◌, subst}

-- ---- a message

pub good_of_lem : (t : Typed) → is_bad t ≡ false → t ≡ good (good_of t)
good_of_lem (bad k) e = absurd (false≢true (sym e))
good_of_lem (good vs) e = refl

-- the record of a column that was read
body_valid : (l : Layout) (col : List (List ℕ)) → is_bad (values_of l col) ≡ false → all tidy col ≡ true → broken_in (column_record l col) ≡ 0
    → Valid (column_record l col)
unfolding values_of column_record
body_valid l col e neat z =
    record {
      values = good_of (values_of l col);
      valid = record_valid l col (good_of (values_of l col)) (good_of_lem (values_of l col) e) neat z;
    }

pub tidy_body : (t : MessageType) (file : List ℕ) → allowed_upto (accents_of t) file ≡ length file → all tidy (body_column t file) ≡ true
unfolding entries_in given
tidy_body t file h = column_tidy (accents_of t) 1 (labels_of (layout_in t (given t file))) file h

body_in : (t : MessageType) (unit file : List ℕ) → Accepted t unit file → Valid (record_in t file)
unfolding record_in
body_in t unit file a = body_valid (layout_in t (given t file)) (body_column t file) a.values (tidy_body t file a.clean) a.rules

pub accepted_valid : (t : MessageType) (unit file : List ℕ) → (message_of t unit file).number ≡ 0 → Valid (message_of t unit file).content
accepted_valid t unit file h =
    let a = accepted t unit file h in
    subst (λ (x : Answer). Valid x.content) (sym a.answered) (body_in t unit file a)

-- ---- the whole reader: what is accepted met neither refusal of the plan, so it is a message

pub message_at : (s : SoughtSaid) (file : List ℕ) → NoneHolds (planned s file) → answer_at s file ≡ message_of s.message (unit_in s) file
unfolding answer_at planned message_of
message_at s file (next no_13 (next no_1 n)) =
    answer_no 13 s.detail (eqb s.number 13) _ (record_in s.message file) no_13
    ∙ answer_no 1 0 (eqb s.number 1) _ (record_in s.message file) no_1

at_accepted : (s : SoughtSaid) (file : List ℕ) → (answer_at s file).number ≡ 0
    → Accepted s.message (unit_in s) file × (answer_at s file ≡ message_of s.message (unit_in s) file)
unfolding answer_at
at_accepted s file h =
    let e = message_at s file (accepted_none (planned s file) (record_in s.message file) (numbers s file) h) in
    (accepted s.message (unit_in s) file (sym (ap (λ (x : Answer). x.number) e) ∙ h), e)

pub read_accepted : (ca ioa : ℕ) (plan file : List ℕ) → (read_of ca ioa plan file).number ≡ 0
    → Accepted (sought_of ca ioa (plan_of plan)).message (unit_in (sought_of ca ioa (plan_of plan))) file
unfolding read_of
read_accepted ca ioa plan file h = (at_accepted (sought_of ca ioa (plan_of plan)) file h).0

at_valid : (s : SoughtSaid) (file : List ℕ) → (answer_at s file).number ≡ 0 → Valid (answer_at s file).content
at_valid s file h =
    let a = at_accepted s file h in
    subst (λ (x : Answer). Valid x.content) (sym (a.1 ∙ a.0.answered)) (body_in s.message (unit_in s) file a.0)

pub read_valid : (ca ioa : ℕ) (plan file : List ℕ) → (read_of ca ioa plan file).number ≡ 0 → Valid (read_of ca ioa plan file).content
unfolding read_of
read_valid ca ioa plan file h = at_valid (sought_of ca ioa (plan_of plan)) file h

-- and its file is no longer than a file may be
pub read_short : (ca ioa : ℕ) (plan file : List ℕ) → (read_of ca ioa plan file).number ≡ 0 → length file ≤ 8192
unfolding read_of
read_short ca ioa plan file h = (at_accepted (sought_of ca ioa (plan_of plan)) file h).0.not_long
