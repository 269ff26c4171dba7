use Prim.Native.Nat.{◌<◌}
use Rattle.writer_lines.proofs.Lines.{start, place_low, turn, finish, same_room, full, text_of, all_lines_short}
use Rattle.layout.proofs.Labels.{few}
use Rattle.layout.specs.Layouts.{size_of}
use Rattle.writer_form.proofs.Columns.{spoken}
use borrow.Author.Rules.{rules}
use lib.ListN.{length}
use mathlib.Core.Path.{◌≡◌}
use native.Mathlib.Omega.{arith}
use Rattle.writer_lines.proofs.put_lines.Goals as goal

pub put_line-p-requires : goal.put_line-p-requires
put_line-p-requires c =
    let sixteen : length c.args.rooms.gradients ≡ 16 = search rules in
    let in_size : c.loop-k.k < size_of c.args.l = omega arith in
    let a = c.args in
    let h = in_size in
    let short = all_lines_short a.l _ a.cells c.requires.1 sixteen in
    let low = place_low a.l _ _ _ (full a.l _ a.cells c.requires.1) _ _ _ c.loop-k.invariant 18200 short in
    (omega (arith, c.requires.0, low), omega arith, omega (arith, h), spoken a.l _ a.cells c.requires.1 _ h)

pub loop-k-preserved : goal.loop-k-preserved
loop-k-preserved c =
    let in_size : c.loop-k.k < size_of c.args.l = omega arith in
    let a = c.args in
    turn a.l _ _ _ (full a.l _ a.cells c.requires.1) _ _ _ c.loop-k.invariant in_size _ (text_of a.l _ a.cells c.requires.1 _ in_size)
    _ _ c.put_line-p.ensures

pub shape_of-out : goal.shape_of-out
shape_of-out c = let k = same_room _ _ _ _ _ _ _ c.loop-k.invariant in search rules

pub returns : goal.returns
returns c =
    let all = full c.args.l _ c.args.cells c.requires.1 in
    finish c.args.l _ _ _ all _ _ _ c.loop-k.invariant (omega arith)

pub loop-k-init : goal.loop-k-init
loop-k-init c = start _ _ _ _

pub offset_bounds-cells-k : goal.offset_bounds-cells-k
offset_bounds-cells-k c = omega (arith, few c.args.l)

pub bounds-cells-k : goal.bounds-cells-k
bounds-cells-k c = omega (arith, few c.args.l)
