use Prim.Native.Nat.{◌+◌, ◌≤◌, ◌<◌}
use Rattle.writer_lines.proofs.Copies.{column_full, text_there, part_small, all_lines_small}
use Rattle.writer_lines.proofs.Lines.{start, place_low, turn, finish, same_room}
use Rattle.layout.proofs.Labels.{few}
use Rattle.layout.specs.Layouts.{size_of}
use Rattle.text_lines.specs.Places.{span_at}
use borrow.Author.Rules.{rules}
use lib.ListN.{length}
use native.Mathlib.Omega.{arith}
use Rattle.writer_lines.proofs.put_text_lines.Goals as goal

pub put_text_line-p-requires : goal.put_text_line-p-requires
put_text_line-p-requires c =
    let in_size : c.loop-k.k < size_of c.args.l = omega arith in
    let a = c.args in
    let h = in_size in
    let low = place_low a.l _ _ _ (column_full _ _ _ c.requires.1) _ _ _ c.loop-k.invariant 214240 (all_lines_small _ _ _ c.requires.1 c.requires.2) in
    (omega (arith, c.requires.0, low), omega arith, omega (arith, h), part_small a.l _ _ c.requires.1 c.requires.2 _ (omega arith) (omega (arith, h)))

pub loop-k-preserved : goal.loop-k-preserved
loop-k-preserved c =
    let in_size : c.loop-k.k < size_of c.args.l = omega arith in
    let a = c.args in
    turn a.l _ _ _ (column_full _ _ _ c.requires.1) _ _ _ c.loop-k.invariant in_size _ (text_there a.l _ _ c.requires.1 _ in_size)
    _ _ c.put_text_line-p.ensures

pub shape_of-out : goal.shape_of-out
shape_of-out c = let k = same_room _ _ _ _ _ _ _ c.loop-k.invariant in search rules

pub returns : goal.returns
returns c =
    finish c.args.l _ _ _ (column_full _ _ _ c.requires.1) _ _ _ c.loop-k.invariant (omega arith)

pub loop-k-init : goal.loop-k-init
loop-k-init c = start _ _ _ _

pub slice_bounds-put_text_line-count : goal.slice_bounds-put_text_line-count
slice_bounds-put_text_line-count c =
    let in_size : c.loop-k.k < size_of c.args.l = omega arith in
    let ordered : (span_at c.args.places (c.loop-k.k + 1)).from ≤ (span_at c.args.places (c.loop-k.k + 1)).to = c.requires.1.ordered _ (omega arith) (omega (arith, in_size)) in
    ordered

pub slice_bounds-put_text_line-start : goal.slice_bounds-put_text_line-start
slice_bounds-put_text_line-start c =
    let in_size : c.loop-k.k < size_of c.args.l = omega arith in
    let ordered : (span_at c.args.places (c.loop-k.k + 1)).from ≤ (span_at c.args.places (c.loop-k.k + 1)).to = c.requires.1.ordered _ (omega arith) (omega (arith, in_size)) in
    let inside : (span_at c.args.places (c.loop-k.k + 1)).to ≤ length c.args.file.now = c.requires.1.inside _ (omega arith) (omega (arith, in_size)) in
    omega (arith, ordered, inside)

pub slice_bounds-put_text_line-end : goal.slice_bounds-put_text_line-end
slice_bounds-put_text_line-end c =
    let in_size : c.loop-k.k < size_of c.args.l = omega arith in
    let inside : (span_at c.args.places (c.loop-k.k + 1)).to ≤ length c.args.file.now = c.requires.1.inside _ (omega arith) (omega (arith, in_size)) in
    omega (arith, inside)

pub offset_bounds-places-k : goal.offset_bounds-places-k
offset_bounds-places-k c = omega (arith, few c.args.l)

pub bounds-places-k : goal.bounds-places-k
bounds-places-k c = omega (arith, few c.args.l)
