-- What demand 2 says of files, at any address of any plan. Assumes nothing.
use Rattle.std.specs.Prelude.{None}
use Prim.Native.Nat.{ℕ, ◌+◌, ◌≤◌}
use Rattle.demands.specs.Demand2.{address, type_at, layout_at}
use Rattle.text_lines.specs.Order.{Perm}
use Rattle.text_lines.specs.Entries.{again}
use Rattle.value_name.specs.declared.MessageType.{MessageType}
use Rattle.plan.specs.Plans.{SoughtSaid}
use Rattle.reader.proofs.Firsts.{none_given, accepted_none, numbers}
use Rattle.reader.specs.Messages.{given, row_in, entries_in}
use Rattle.reader.specs.Reader.{Sound, record_in, message_of, unit_in, planned, answer_at, read_of}
use Rattle.reader.specs.Refusals.{refused, answer, accepted as taken}
use Rattle.text.specs.Refusals.{Refusal, NoneHolds, none, next}
use Rattle.reader.specs.Refusals.{Answer}
use Rattle.reader_theorems.proofs.Agreed.{Accepted, accepted}
use Rattle.reader_theorems.proofs.Alike.{reordered, same_reading}
use Rattle.record.specs.declared.Record.{Record}
use Rattle.writer_theorems.proofs.RoundTrip.{planned_back, small_file, round_trip}
use Rattle.writer_theorems.specs.Own.{OwnAddress}
use Rattle.text.proofs.Tests.{by_test, or_parts}
use Rattle.text.specs.Bytes.{any}
use Rattle.text.specs.Puts.{buffer_of}
use Rattle.record_valid.specs.Valid.{Valid}
use Rattle.record_check.proofs.Decides.{valid_tells}
use Rattle.record_check.specs.Validity.{is_valid}
use Rattle.writer.specs.Writer.{fitted, write_of, left_by}
use Rattle.writer.specs.Writer.Written.{Length, Refused}
use Rattle.writer_form.specs.Written.{file_of}
use borrow.Author.Tests.{le-leb, leb-true}
use lib.Dec.{eqb, leb}
use lib.ListN.{length, take, drop}
use lib.Seq.{take-append_seam}
use mathlib.Core.Bool.{false, cond}
use mathlib.Core.List.{List, [], ◌∷◌}
use mathlib.Core.Logic.{◌↔◌}
use mathlib.Core.Path.{◌≡◌, refl, sym, ap, ◌∙◌}
use native.Mathlib.Omega.{arith}

-- ---- accepted exactly where no refusal holds

none_any : {rs : List Refusal} → NoneHolds rs → any (λ (r : Refusal). r.holds) rs ≡ false
unfolding any
none_any none = refl
none_any (next e n) = rw e (none_any n)

any_none : (rs : List Refusal) → any (λ (r : Refusal). r.holds) rs ≡ false → NoneHolds rs
unfolding any
any_none [] e = none
any_none (x ∷ xs) e = let o = or_parts x.holds (any (λ (r : Refusal). r.holds) xs) e in next o.0 (any_none xs o.1)

module _ (ca ioa : ℕ) (plan file : List ℕ) where
  no_refusal : (read_of ca ioa plan file).number ≡ 0 → NoneHolds (planned (address ca ioa plan) file)
  unfolding read_of answer_at
  no_refusal h =
      let s = address ca ioa plan in
      accepted_none (planned s file) (record_in s.message file) (numbers s file) h

  pub accepted_exactly : (read_of ca ioa plan file).number ≡ 0 ↔ any (λ (r : Refusal). r.holds) (planned (address ca ioa plan) file) ≡ false
  unfolding read_of answer_at
  accepted_exactly = (
    λ h. none_any (no_refusal h),
    λ e. ap (λ (a : Answer). a.number) (none_given (record_in (type_at ca ioa plan) file) (any_none (planned (address ca ioa plan) file) e)),
  )

  pub its_record : (read_of ca ioa plan file).number ≡ 0 → (read_of ca ioa plan file).content ≡ record_in (type_at ca ioa plan) file
  unfolding read_of answer_at
  its_record h = ap (λ (a : Answer). a.content) (none_given (record_in (type_at ca ioa plan) file) (no_refusal h))

-- ---- what is so of a message is so at an address

-- where the address is refused both answers are that refusal
pub at_same : (s : SoughtSaid) (f g : List ℕ) → message_of s.message (unit_in s) f ≡ message_of s.message (unit_in s) g → answer_at s f ≡ answer_at s g
unfolding answer_at planned message_of answer
at_same s f g e = ap (λ (a : Answer). cond (eqb s.number 13) (refused 13 s.detail) (cond (eqb s.number 1) (refused 1 0) a)) e

accepted_at : (s : SoughtSaid) (file : List ℕ) → (answer_at s file).number ≡ 0 → NoneHolds (planned s file) → Accepted s.message (unit_in s) file
unfolding planned
accepted_at s file h (next e (next d n)) = accepted s.message (unit_in s) file (sym (ap (λ (a : Answer). a.number) (planned_back s file e d)) ∙ h)

-- what acceptance says of a file at an address
pub read_accepted : (ca ioa : ℕ) (plan file : List ℕ) → (read_of ca ioa plan file).number ≡ 0
    → Accepted (type_at ca ioa plan) (unit_in (address ca ioa plan)) file
unfolding read_of
read_accepted ca ioa plan file h = accepted_at (address ca ioa plan) file h (no_refusal ca ioa plan file h)

-- ---- in another order

sound_of : {t : MessageType} {unit file : List ℕ} → Accepted t unit file → Sound t file
sound_of a = record { some_bytes = a.some_bytes; not_long = a.not_long; clean = a.clean; frame = a.frame }

pub ordered : (ca ioa : ℕ) (plan f g : List ℕ) → Sound (type_at ca ioa plan) f → Sound (type_at ca ioa plan) g
    → row_in f ≡ row_in g
    → Perm (given (type_at ca ioa plan) f) (given (type_at ca ioa plan) g)
    → again [] (entries_in (type_at ca ioa plan) f) ≡ None
    → read_of ca ioa plan f ≡ read_of ca ioa plan g
unfolding read_of
ordered ca ioa plan f g sf sg row lines once =
    let s = address ca ioa plan in
    at_same s f g (reordered s.message (unit_in s) f g sf sg row lines once)

pub however : (ca ioa : ℕ) (plan f g : List ℕ)
    → (read_of ca ioa plan f).number ≡ 0
    → Sound (type_at ca ioa plan) g
    → row_in g ≡ row_in f
    → Perm (given (type_at ca ioa plan) f) (given (type_at ca ioa plan) g)
    → read_of ca ioa plan g ≡ read_of ca ioa plan f
however ca ioa plan f g h sg row lines =
    let a = read_accepted ca ioa plan f h in
    sym (ordered ca ioa plan f g (sound_of a) sg (sym row) lines a.once)

-- with other lines besides, which are passed over
pub passed_over : (ca ioa : ℕ) (plan f g : List ℕ)
    → (read_of ca ioa plan f).number ≡ 0
    → Sound (type_at ca ioa plan) g
    → row_in f ≡ row_in g
    → layout_at ca ioa plan g ≡ layout_at ca ioa plan f
    → Perm (entries_in (type_at ca ioa plan) f) (entries_in (type_at ca ioa plan) g)
    → read_of ca ioa plan g ≡ read_of ca ioa plan f
unfolding read_of
passed_over ca ioa plan f g h sg row lay lines =
    let a = read_accepted ca ioa plan f h in
    let s = address ca ioa plan in
    sym (at_same s f g (same_reading s.message (unit_in s) f g (sound_of a) sg row (sym lay) lines a.once))

-- ---- a valid record is written whole

module _ (r : Record) (out : List ℕ) (v : Valid r) (room : 8192 ≤ length out) where
  fits : length (file_of r) ≤ length out
  fits = omega (arith, small_file r v)

  pub written_length : write_of r (length out) ≡ Length (length (file_of r))
  unfolding write_of fitted
  written_length = rw ((valid_tells r).1 v, le-leb (length (file_of r)) (length out) fits)

  pub written_bytes : take (length (file_of r)) (left_by r out) ≡ file_of r
  unfolding left_by buffer_of
  written_bytes =
      let z : 0 + length (file_of r) ≤ length out = omega (arith, fits) in
      rw ((valid_tells r).1 v, le-leb (0 + length (file_of r)) (length out) z) (take-append_seam (file_of r) (drop (0 + length (file_of r)) out))

-- ---- whatever the room, what a write that succeeds has written is read back

fitted_back : (t out : List ℕ) (n : ℕ) → fitted t (length out) ≡ Length n → take n (buffer_of out 0 t) ≡ t
unfolding fitted buffer_of
fitted_back t out n h =
    by_test (leb (length t) (length out))
    (λ e.
    let k : Length (length t) ≡ Length n = rw e at h in
    let size : n ≡ length t = cc in
    let z : 0 + length t ≤ length out = omega (arith, leb-true (length t) (length out) e) in
    rw (size, le-leb (0 + length t) (length out) z) (take-append_seam t (drop (0 + length t) out)))
    (λ e. let no : Refused 11 (length t) ≡ Length n = rw e at h in cc)

pub written_back : (r : Record) (ca ioa : ℕ) (plan out : List ℕ) (n : ℕ) → OwnAddress r ca ioa plan
    → write_of r (length out) ≡ Length n
    → read_of ca ioa plan (take n (left_by r out)) ≡ taken r
unfolding write_of left_by
written_back r ca ioa plan out n own h =
    by_test (is_valid r)
    (λ e.
    let k : fitted (file_of r) (length out) ≡ Length n = rw e at h in
    rw e (ap (read_of ca ioa plan) (fitted_back (file_of r) out n k) ∙ round_trip r ((valid_tells r).0 e) ca ioa plan own))
    (λ e. let no : Refused 12 0 ≡ Length n = rw e at h in cc)
