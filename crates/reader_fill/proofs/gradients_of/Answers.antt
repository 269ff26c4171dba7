use Prim.Native.Nat.{ℕ}
use Rattle.reader_fill.proofs.Gradients.{none_there, read_there}
use Rattle.layout.specs.Layouts.{size_of}
use Rattle.text_lines.specs.Places.{column_in}
use Rattle.record.proofs.Rooms.{gradients_in}
use mathlib.Core.List.{List}
use native.Mathlib.Omega.{arith}
use Rattle.reader_fill.proofs.gradients_of.Goals as goal

pub returns-then-at-eq0 : goal.returns-then-at-eq0
returns-then-at-eq0 c =
    let a = c.args in
    let col : List (List ℕ) = column_in (size_of a.l) a.file.now a.spans in
    none_there col _ _ c.gradients_field-at.ensures c.if-at-eq0.true

pub text_at-requires : goal.text_at-requires
text_at-requires c = (omega (arith, gradients_in c.args.l, c.gradients_field-at.ensures), c.requires)

pub returns : goal.returns
returns c =
    let a = c.args in
    let col : List (List ℕ) = column_in (size_of a.l) a.file.now a.spans in
    read_there col _ _ _ _ c.gradients_field-at.ensures c.text_at.ensures c.read.ensures
