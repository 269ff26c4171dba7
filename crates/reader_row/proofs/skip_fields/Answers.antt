use Prim.Native.Nat.{◌≤◌}
use Rattle.layout.proofs.Labels.{some_fields}
use Rattle.layout.specs.Layouts.{size_of}
use Rattle.reader_row.proofs.Fields.{first_on, first_no, field_some, field_in, field_few, later_on, later_no, all_on}
use lib.Dec.{lit≤}
use native.Mathlib.Omega.{arith}
use Rattle.reader_row.proofs.skip_fields.Goals as goal

pub skip_piece-requires : goal.skip_piece-requires
skip_piece-requires c =
    let n : 1 ≤ size_of c.args.l = omega (arith, some_fields c.args.l) in
    (c.requires.0, c.requires.1, c.requires.2.ordered 1 (lit≤ tt) n, c.requires.2.inside 1 (lit≤ tt) n)

pub returns-in_default : goal.returns-in_default
returns-in_default c =
    first_no _ _ _ _ _ c.requires.0 c.requires.1 c.requires.2 _ c.skip_piece.ensures c.in_default.is

pub loop-i-init : goal.loop-i-init
loop-i-init c =
    first_on _ _ _ _ _ c.requires.0 c.requires.1 c.requires.2 _ c.skip_piece.ensures _
    c.size-n.ensures _ c.in-Some.is

pub field-k-requires : goal.field-k-requires
field-k-requires c = omega (arith, c.loop-i.invariant.size)

pub offset_bounds-spans-k : goal.offset_bounds-spans-k
offset_bounds-spans-k c =
    let s = c.loop-i.invariant in
    let h = c.loop-i-test.true in
    let f = c.field-k.ensures in
    let k = field_few _ _ _ _ _ _ _ _ s h _ f in
    omega (arith, k)

pub bounds-spans-k : goal.bounds-spans-k
bounds-spans-k c =
    let s = c.loop-i.invariant in
    let h = c.loop-i-test.true in
    let f = c.field-k.ensures in
    let k = field_few _ _ _ _ _ _ _ _ s h _ f in
    omega (arith, k)

pub skip_mark-requires : goal.skip_mark-requires
skip_mark-requires c =
    let s = c.loop-i.invariant in
    let h = c.loop-i-test.true in
    let f = c.field-k.ensures in (
      s.near,
      s.inside,
      s.placed.ordered _ (field_some _ _ _ _ _ _ _ _ s h _ f) (field_in _ _ _ _ _ _ _ _ s h _ f),
      s.placed.inside _ (field_some _ _ _ _ _ _ _ _ s h _ f) (field_in _ _ _ _ _ _ _ _ s h _ f),
    )

pub returns-in_default-skip_mark : goal.returns-in_default-skip_mark
returns-in_default-skip_mark c =
    let s = c.loop-i.invariant in
    let h = c.loop-i-test.true in
    let f = c.field-k.ensures in
    later_no _ _ _ _ _ _ _ _ s h _ f _ c.skip_mark.ensures c.in_default-skip_mark.is

pub loop-i-preserved : goal.loop-i-preserved
loop-i-preserved c =
    let s = c.loop-i.invariant in
    let h = c.loop-i-test.true in
    let f = c.field-k.ensures in
    later_on _ _ _ _ _ _ _ _ s h _ f _ c.skip_mark.ensures _ c.in-Some-skip_mark.is

pub returns : goal.returns
returns c = all_on _ _ _ _ _ _ _ _ c.loop-i.invariant c.loop-i-test.false
