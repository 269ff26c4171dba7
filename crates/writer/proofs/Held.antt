-- A valid record can be put: its rooms are no larger than a record's, its values are held by their kinds, and its file fits 8,192 bytes.
-- Assumes nothing.
use Prim.Native.Nat.{ℕ, ◌≤◌}
use Rattle.reader.specs.Reader.{read_of}
use Rattle.reader.specs.Refusals.{Answer}
use Rattle.reader_theorems.proofs.Validity.{read_valid}
use Rattle.record.specs.Records.{rooms_of}
use Rattle.record.specs.declared.Record.{Record}
use Rattle.value_put.specs.Rooms.{Narrow}
use Rattle.text.proofs.Tests.{eqb_tells, ◌and◌, and_parts}
use Rattle.record_valid.specs.Valid.{Valid}
use Rattle.record_check.proofs.Decides.{valid_tells}
use Rattle.record_check.specs.Validity.{is_sized, is_valid}
use Rattle.writer_form.proofs.Sizes.{message_small}
use Rattle.writer_form.proofs.Values.{values_are}
use Rattle.writer_form.specs.Held.{Held}
use Rattle.writer_form.specs.Written.{file_of}
use lib.ListN.{length}
use mathlib.Core.Bool.{true}
use mathlib.Core.List.{List}
use mathlib.Core.Path.{◌≡◌, sym, ap, ◌∙◌, subst}
use native.Mathlib.Omega.{arith}

-- the lengths of a valid record's rooms
sized_narrow : (r : Record) → is_sized r ≡ true → Narrow (rooms_of r)
unfolding is_sized
sized_narrow r e =
    let p =
    (eqb_tells (length r.cells) 26 and eqb_tells (length r.unit) 16 and eqb_tells (length r.reason) 128 and eqb_tells (length r.note) 256
    and eqb_tells (length r.gradients) 16).0 e in
    record { unit_few = omega (arith, p.0.0.0.1); reason_few = omega (arith, p.0.0.1); note_few = omega (arith, p.0.1) }

valid_sized : (r : Record) → Valid r → is_sized r ≡ true
unfolding is_valid
valid_sized r v = (and_parts (is_sized r) _ ((valid_tells r).1 v)).0

pub valid_held : (r : Record) → Valid r → Held r.layout (rooms_of r) r.cells
valid_held r v = record { narrow = sized_narrow r (valid_sized r v); hold = rw (values_are v.valid) v.valid.hold }

pub told_held : (r : Record) → is_valid r ≡ true → Held r.layout (rooms_of r) r.cells
told_held r e = valid_held r ((valid_tells r).0 e)

pub held_small : (r : Record) → Held r.layout (rooms_of r) r.cells → length (file_of r) ≤ 8192
unfolding file_of
held_small r h = message_small r.layout (rooms_of r) r.cells h.hold

-- what was read and accepted
pub read_held : (a : Answer) (ca ioa : ℕ) (plan file : List ℕ) → a ≡ read_of ca ioa plan file → a.number ≡ 0
    → Held a.content.layout (rooms_of a.content) a.content.cells
read_held a ca ioa plan file e n =
    valid_held a.content (subst (λ (x : Answer). Valid x.content) (sym e) (read_valid ca ioa plan file (ap (λ (x : Answer). x.number) (sym e) ∙ n)))
