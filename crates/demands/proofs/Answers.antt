-- What demand 1 says of refusals: whose number and detail they give, and that they leave the output as it was; and what each case of an answer says.
-- Assumes nothing.
use Prim.Native.Nat.{ℕ, ◌+◌, ◌≤◌, ◌<◌}
use Rattle.report_brief.proofs.Sizes.{six_length}
use Rattle.report_brief.specs.Brief.{six_lines}
use Rattle.demands.specs.Demand1.{is_readers, says_room, Leaves}
use Rattle.gateway.specs.Entry.{length_or11, entry_code, out_of}
use Rattle.plan.specs.Plans.{plan_of, sought_of}
use Rattle.reader.proofs.Firsts.{given_first}
use Rattle.reader.specs.Reader.{valued, labelled, reading, record_in, planned, answer_at, read_of}
use Rattle.reader.specs.Refusals.{answer, IsFirst}
use Rattle.text.specs.Refusals.{Refusal}
use Rattle.reader.specs.Refusals.{Answer}
use Rattle.reader_theorems.proofs.Validity.{read_valid}
use Rattle.record.specs.Records.{zero_record}
use Rattle.record.specs.declared.Record.{Record}
use Rattle.writer_theorems.proofs.RoundTrip.{small_file}
use Rattle.text.proofs.Tests.{by_test, eqb_tells, ◌and◌, and_parts}
use Rattle.text.specs.Bytes.{all}
use Rattle.text.specs.Puts.{wrote_of, of_wrote, buffer_of}
use Rattle.text.specs.Said.{Said, said}
use Rattle.times.proofs.Theorems.{empty_when_refused}
use Rattle.times.specs.Times.{time_of, part_in, time_refusal, of_time}
use Rattle.times.specs.Times.TimeSaid.{File, Sheet, Refused as NoTime}
use Rattle.times.specs.Times.{TimeSaid}
use Rattle.times_sheet.specs.declared.Which.{Which}
use Rattle.record_valid.specs.Valid.{Valid}
use Rattle.record_check.proofs.Decides.{valid_tells}
use Rattle.record_check.specs.Validity.{is_sized, is_valid}
use Rattle.writer.specs.Writer.{of_written, fitted, write_of, left_by, normalise_of, normal_left}
use Rattle.writer.specs.Writer.Written.{Length, Refused}
use Rattle.writer.specs.Writer.{Written}
use Rattle.writer_form.specs.Written.{file_of}
use borrow.Author.Tests.{eqb-true, leb-false, lt-leb}
use lib.Dec.{eqb, leb}
use lib.ListN.{length}
use mathlib.Core.Bool.{Bool, true, cond}
use mathlib.Core.List.{List, [], ◌∷◌}
use mathlib.Core.Logic.{◌↔◌}
use mathlib.Core.Path.{◌≡◌, refl, ap}
use native.Mathlib.Omega.{arith}

-- ---- the reader's refusals

-- what holds of 0 and of every number of a list holds of the answer's
number_of : (p : ℕ → Bool) (rs : List Refusal) (r : Record) → p 0 ≡ true → all (λ (x : Refusal). p x.number) rs ≡ true → p (answer rs r).number ≡ true
unfolding answer all
number_of p [] r z h = z
number_of p (x ∷ xs) r z h =
    let c = and_parts (p x.number) (all (λ (y : Refusal). p y.number) xs) h in
    by_test x.holds (λ e. rw e c.0) (λ e. rw e (number_of p xs r z c.1))

pub readers_number : (ca ioa : ℕ) (plan file : List ℕ) → is_readers (read_of ca ioa plan file).number ≡ true
unfolding read_of answer_at planned reading labelled valued all
readers_number ca ioa plan file =
    let s = sought_of ca ioa (plan_of plan) in
    number_of is_readers (planned s file) (record_in s.message file) refl refl

module _ (ca ioa : ℕ) (plan file : List ℕ) (refused : (read_of ca ioa plan file).number ≡ 0 → ⊥) where
  pub refused_first : IsFirst (planned (sought_of ca ioa (plan_of plan)) file) (read_of ca ioa plan file)
  unfolding read_of answer_at
  refused_first =
      let s = sought_of ca ioa (plan_of plan) in
      given_first (planned s file) (record_in s.message file) refused

  pub refused_file : (read_of ca ioa plan file).content ≡ zero_record
  refused_file = ap (λ (a : Answer). a.content) refused_first.says

-- ---- what each case of an answer says

fitted_says : (t : List ℕ) (room : ℕ) → of_written (fitted t room) ≡ says_room t room
unfolding fitted
fitted_says t room = by_test (leb (length t) room) (λ e. rw e) (λ e. rw e)

pub write_says : (r : Record) (room : ℕ) → of_written (write_of r room) ≡ cond (is_valid r) (says_room (file_of r) room) (said 12 0 [])
unfolding write_of
write_says r room = by_test (is_valid r) (λ e. rw e (fitted_says (file_of r) room)) (λ e. rw e)

pub normalise_says : (a : Answer) (room : ℕ)
    → of_written (normalise_of a room) ≡ cond (eqb a.number 0) (says_room (file_of a.content) room) (said a.number a.detail [])
unfolding normalise_of
normalise_says a room = by_test (eqb a.number 0) (λ e. rw e (fitted_says (file_of a.content) room)) (λ e. rw e)

-- a length is said of the length alone
pub length_told : (w : Written) (n : ℕ) → of_written w ≡ said 0 0 (n ∷ []) → w ≡ Length n
length_told (Length m) n h = let same : m ∷ [] ≡ n ∷ [] = ap (λ (s : Said). s.values) h in cc
length_told (Refused m d) n h = let no : [] ≡ n ∷ [] = ap (λ (s : Said). s.values) h in cc

-- ---- an output in which a text has no room

no_room : (t out : List ℕ) (at : ℕ) → length out < at + length t → buffer_of out at t ≡ out
unfolding buffer_of
no_room t out at h = rw (lt-leb (at + length t) (length out) h)

pub refused_value : (out : List ℕ) (at : ℕ) (t : List ℕ) → ((of_wrote (wrote_of out at t)).number ≡ 0 → ⊥) → buffer_of out at t ≡ out
unfolding wrote_of
refused_value out at t h =
    by_test (leb (at + length t) (length out))
    (λ e. absurd (h (rw e)))
    (λ e. no_room t out at (leb-false (at + length t) (length out) e))

unfit_left : (t out : List ℕ) → ((of_written (fitted t (length out))).number ≡ 0 → ⊥) → buffer_of out 0 t ≡ out
unfolding fitted
unfit_left t out h =
    by_test (leb (length t) (length out))
    (λ e. absurd (h (rw e)))
    (λ e. no_room t out 0 (omega (arith, leb-false (length t) (length out) e)))

-- ---- the writer and the normaliser

pub refused_write : (r : Record) (out : List ℕ) → ((of_written (write_of r (length out))).number ≡ 0 → ⊥) → left_by r out ≡ out
unfolding write_of left_by
refused_write r out h = by_test (is_valid r) (λ e. rw e (unfit_left (file_of r) out (rw e at h))) (λ e. rw e)

pub left_normal : (a : Answer) (out : List ℕ) → ((of_written (normalise_of a (length out))).number ≡ 0 → ⊥) → normal_left a out ≡ out
unfolding normalise_of normal_left
left_normal a out h = by_test (eqb a.number 0) (λ e. rw e (unfit_left (file_of a.content) out (rw e at h))) (λ e. rw e)

-- ---- the times

pub refused_time : (w : Which) (ca ioa : ℕ) (plan file sheet : List ℕ)
    → ((of_time file sheet (time_of w ca ioa plan file sheet)).number ≡ 0 → ⊥) ↔ (of_time file sheet (time_of w ca ioa plan file sheet)).values ≡ []
refused_time w ca ioa plan file sheet =
    let q = empty_when_refused w ca ioa plan file sheet in
    said_empty (time_of w ca ioa plan file sheet) q.0 q.1
  where
    said_empty : (t : TimeSaid) → ((time_refusal t).number ≡ 0 → 1 ≤ length (part_in t file sheet)) → (((time_refusal t).number ≡ 0 → ⊥) → part_in t file sheet ≡ [])
        → ((of_time file sheet t).number ≡ 0 → ⊥) ↔ (of_time file sheet t).values ≡ []
    said_empty (File from to) f g = (g, λ e z. omega (arith, f z, ap length e))
    said_empty (Sheet from to) f g = (g, λ e z. omega (arith, f z, ap length e))
    said_empty (NoTime n d) f g = (g, λ e z. omega (arith, f z))

-- ---- the entries: a length that is written is small, so that no success looks like a refusal

module _ (text : Record → List ℕ) (small : (r : Record) → Valid r → length (text r) < 65536) where
  small_left : (t out : List ℕ) → length t < 65536 → 65536 ≤ length_or11 t (length out) → buffer_of out 0 t ≡ out
  unfolding length_or11
  small_left t out s h =
      by_test (leb (length t) (length out))
      (λ e. let no : 65536 ≤ length t = rw e at h in absurd (omega arith))
      (λ e. no_room t out 0 (omega (arith, leb-false (length t) (length out) e)))

  pub entry_leaves : Leaves text
  unfolding entry_code out_of
  entry_leaves ca ioa plan file out h =
      let a = read_of ca ioa plan file in
      by_test (eqb a.number 0)
      (λ e. rw e (small_left (text a.content) out (small a.content (read_valid ca ioa plan file (eqb-true a.number 0 e))) (rw e at h)))
      (λ e. rw e)

unit_sized : (r : Record) → Valid r → length r.unit ≡ 16
unfolding is_valid is_sized
unit_sized r v =
    let sized = (and_parts (is_sized r) _ ((valid_tells r).1 v)).0 in
    let p =
    (eqb_tells (length r.cells) 26 and eqb_tells (length r.unit) 16 and eqb_tells (length r.reason) 128 and eqb_tells (length r.note) 256
    and eqb_tells (length r.gradients) 16).0 sized in
    p.0.0.0.1

pub read_leaves : Leaves six_lines
read_leaves = entry_leaves six_lines (λ r v. omega (arith, six_length r (unit_sized r v)))

pub normalise_leaves : Leaves file_of
normalise_leaves = entry_leaves file_of (λ r v. omega (arith, small_file r v))
