-- The normalising entry answers what the normaliser says, as one number. Assumes nothing.
use Rattle.std.specs.Prelude.{Result, Ok, Err}
use Rattle.refusal.specs.declared.Refusal.{Refusal}
use Prim.Native.Nat.{ℕ, ◌+◌, ◌*◌, ◌≤◌, ◌<◌}
use Rattle.gateway.specs.Entry.{code_by, length_or11, entry_code, out_of}
use Rattle.reader.specs.Reader.{read_of}
use Rattle.reader.specs.Refusals.{Answer}
use Rattle.reader_theorems.proofs.Small.{detail_small, number_small}
use Rattle.text.proofs.Tests.{by_test}
use Rattle.writer.proofs.Held.{read_held, held_small}
use Rattle.writer.specs.Writer.{fitted, written_by, normalise_of, normal_left}
use Rattle.writer.specs.Writer.{Written}
use Rattle.writer.specs.Writer.Written.{Length, Refused}
use Rattle.writer_form.specs.Written.{file_of}
use borrow.Author.Tests.{eqb-true}
use lib.Dec.{eqb, leb}
use lib.ListN.{length}
use mathlib.Core.List.{List}
use mathlib.Core.Path.{◌≡◌, refl, sym, ap, ◌∙◌, subst}
use native.Mathlib.Omega.{arith}

-- ---- one number for each answer

answered : Written → ℕ
answered (Length n) = n
answered (Refused k d) = k * 65536 + d

fitted_code : (t : List ℕ) (room : ℕ) → answered (fitted t room) ≡ length_or11 t room
unfolding answered fitted length_or11
fitted_code t room = by_test (leb (length t) room) (λ e. rw e) (λ e. rw e (omega arith))

code_is : (a : Answer) (room : ℕ) → answered (normalise_of a room) ≡ entry_code file_of a room
unfolding answered normalise_of entry_code
code_is a room = by_test (eqb a.number 0) (λ e. rw e (fitted_code (file_of a.content) room)) (λ e. rw e (omega arith))

-- ---- none is too large

-- a length is at most that of a file; a refusal's number and detail are small
Fair : Written → Type 0
Fair (Length n) = n ≤ 8192
Fair (Refused k d) = (k ≤ 13) × (d < 65536)

fitted_fair : (t : List ℕ) (room : ℕ) → length t ≤ 8192 → Fair (fitted t room)
unfolding Fair fitted
fitted_fair t room h = by_test (leb (length t) room) (λ e. rw e h) (λ e. rw e (omega arith, omega arith))

fair : (ca ioa : ℕ) (plan file : List ℕ) (room : ℕ) → Fair (normalise_of (read_of ca ioa plan file) room)
unfolding Fair normalise_of
fair ca ioa plan file room =
    let a = read_of ca ioa plan file in
    by_test (eqb a.number 0)
    (λ e. rw e (fitted_fair (file_of a.content) room (held_small a.content (read_held a ca ioa plan file refl (eqb-true a.number 0 e)))))
    (λ e. rw e (number_small ca ioa plan file, detail_small ca ioa plan file))

-- ---- the entry's answer

code_said : (r : Result ℕ Refusal) → code_by r ≡ answered (written_by r)
unfolding answered
code_said (Ok n) = refl
code_said (Err e) = omega arith

fair_small : (w : Written) → Fair w → answered w < 4294967296
unfolding Fair answered
fair_small (Length n) h = omega arith
fair_small (Refused k d) h = omega (arith, h.0, h.1)

module _ (ca ioa : ℕ) (plan file out m : List ℕ) (r : Result ℕ Refusal)
    (told : (written_by r ≡ normalise_of (read_of ca ioa plan file) (length out)) × (m ≡ normal_left (read_of ca ioa plan file) out)) where
  pub small : code_by r < 4294967296
  small =
      let h = fair_small (written_by r) (subst Fair (sym told.0) (fair ca ioa plan file (length out))) in
      omega (arith, h, code_said r)

  pub told_as : (code_by r ≡ entry_code file_of (read_of ca ioa plan file) (length out)) × (m ≡ out_of file_of (read_of ca ioa plan file) out)
  unfolding normal_left out_of
  told_as = (code_said r ∙ ap answered told.0 ∙ code_is (read_of ca ioa plan file) (length out), told.1)
