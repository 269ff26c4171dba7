use Prim.Native.Nat.{◌+◌, ◌<◌}
use Rattle.layout.proofs.Labels.{few}
use Rattle.layout.specs.Layouts.{size_of}
use Rattle.writer.proofs.Looks.{start, turn, stop, finish, of_layout}
use borrow.Author.Rules.{rules}
use lib.ListN.{length}
use mathlib.Core.Path.{◌≡◌}
use native.Mathlib.Omega.{arith}
use Rattle.writer.proofs.stands_written.Goals as goal

pub loop-k-init : goal.loop-k-init
loop-k-init c = start _ _ _ _

pub offset_bounds-places-k : goal.offset_bounds-places-k
offset_bounds-places-k c = omega (arith, few c.args.l)

pub bounds-places-k : goal.bounds-places-k
bounds-places-k c = omega (arith, few c.args.l)

pub offset_bounds-cells-k : goal.offset_bounds-cells-k
offset_bounds-cells-k c = omega (arith, few c.args.l)

pub bounds-cells-k : goal.bounds-cells-k
bounds-cells-k c = omega (arith, few c.args.l)

pub slice_bounds-is_written-count : goal.slice_bounds-is_written-count
slice_bounds-is_written-count c = c.requires.ordered _ (omega arith) (omega arith)

pub slice_bounds-is_written-start : goal.slice_bounds-is_written-start
slice_bounds-is_written-start c =
    omega (arith, c.requires.ordered (c.loop-k.k + 1) (omega arith) (omega arith), c.requires.inside (c.loop-k.k + 1) (omega arith) (omega arith))

pub slice_bounds-is_written-end : goal.slice_bounds-is_written-end
slice_bounds-is_written-end c = c.requires.inside _ (omega arith) (omega arith)

pub returns-then-not-is_written : goal.returns-then-not-is_written
returns-then-not-is_written c =
    let room : length c.args.cells.now ≡ 26 = search rules in
    let h : c.loop-k.k < size_of c.args.l = omega arith in
    of_layout _ _ _ _ _
    (stop _ (few c.args.l) _ room _ _ c.requires _ c.loop-k.invariant h _ c.is_written.ensures c.if-not-is_written.true)

pub loop-k-preserved : goal.loop-k-preserved
loop-k-preserved c =
    let room : length c.args.cells.now ≡ 26 = search rules in
    let h : c.loop-k.k < size_of c.args.l = omega arith in
    turn _ (few c.args.l) _ room _ _ c.requires _ c.loop-k.invariant h _ c.is_written.ensures c.if-not-is_written.false

pub returns : goal.returns
returns c =
    let room : length c.args.cells.now ≡ 26 = search rules in
    of_layout _ _ _ _ _ (finish _ (few c.args.l) _ room _ _ c.requires _ c.loop-k.invariant (omega arith))
