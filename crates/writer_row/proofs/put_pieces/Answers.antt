use Prim.Native.Nat.{◌+◌, ◌≤◌, ◌<◌}
use Rattle.layout.specs.Rows.{row_fields}
use Rattle.record.proofs.Fields.{field_at}
use Rattle.writer_row.proofs.Rows.{start, place_low, turn, finish, same_room, number_in}
use Rattle.value.specs.Texts.{rooms_in}
use borrow.Author.Rules.{rules}
use lib.Dec.{lit≤}
use lib.ListN.{length}
use mathlib.Core.Path.{◌≡◌, sym}
use native.Mathlib.Omega.{arith}
use Rattle.writer_row.proofs.put_pieces.Goals as goal

pub put_value-p-requires : goal.put_value-p-requires
put_value-p-requires c =
    (omega (arith, c.requires.0), c.requires.1.narrow)

pub loop-i-init : goal.loop-i-init
loop-i-init c = start _ _ _ _ _

pub put_byte-from-requires : goal.put_byte-from-requires
put_byte-from-requires c =
    let sixteen : length c.args.rooms.gradients ≡ 16 = search rules in
    let low : c.loop-i.p ≤ c.args.at + 18200 = let head = c.put_value-p in
    let kind = c.type_of-t in
    place_low c.args.l (rooms_in c.args.rooms) c.args.cells c.args.out.now _ kind.result kind.ensures _ (sym (field_at c.args.cells 1 (lit≤ tt)))
    _ head.new.out head.ensures _ _ _ c.loop-i.invariant c.requires.1 sixteen in
    omega (arith, c.requires.0, low)

pub field-k-requires : goal.field-k-requires
field-k-requires c = omega (arith, c.size-n.ensures)

pub overflow_sub-v : goal.overflow_sub-v
overflow_sub-v c = (number_in _ _ _ _ c.loop-i-test.true c.size-n.ensures c.field-k.ensures).0

pub offset_bounds-cells-k : goal.offset_bounds-cells-k
offset_bounds-cells-k c = omega (arith, number_in _ _ _ _ c.loop-i-test.true c.size-n.ensures c.field-k.ensures)

pub bounds-cells-k : goal.bounds-cells-k
bounds-cells-k c = omega (arith, number_in _ _ _ _ c.loop-i-test.true c.size-n.ensures c.field-k.ensures)

pub put_value-p-requires-in-loop-i : goal.put_value-p-requires-in-loop-i
put_value-p-requires-in-loop-i c =
    let sixteen : length c.args.rooms.gradients ≡ 16 = search rules in
    let low : c.loop-i.p ≤ c.args.at + 18200 = let head = c.put_value-p in
    let kind = c.type_of-t in
    place_low c.args.l (rooms_in c.args.rooms) c.args.cells c.args.out.now _ kind.result kind.ensures _ (sym (field_at c.args.cells 1 (lit≤ tt)))
    _ head.new.out head.ensures _ _ _ c.loop-i.invariant c.requires.1 sixteen in
    (omega (arith, c.requires.0, low, c.put_byte-from.ensures.0), c.requires.1.narrow)

pub loop-i-preserved : goal.loop-i-preserved
loop-i-preserved c =
    let inside : c.loop-i.i < length (row_fields c.args.l) = omega (arith, c.size-n.ensures) in
    let byte = c.put_byte-from in
    let number = c.field-k in
    let value = sym (field_at c.args.cells number.result (number_in _ _ _ _ c.loop-i-test.true c.size-n.ensures number.ensures).0) in
    turn c.args.l _ c.args.cells _ _ _ _ _ c.loop-i.invariant inside _ c.type_of-t.ensures
    number.result number.ensures _ value _ byte.new.out _ _ byte.ensures c.put_value-p-in-loop-i.ensures

pub shape_of-out : goal.shape_of-out
shape_of-out c = let k = same_room _ _ _ _ _ _ _ _ c.loop-i.invariant in search rules

pub returns : goal.returns
returns c =
    let head = c.put_value-p in
    finish c.args.l (rooms_in c.args.rooms) c.args.cells c.args.out.now _ c.type_of-t.result c.type_of-t.ensures
    _ (sym (field_at c.args.cells 1 (lit≤ tt))) _ head.new.out head.ensures _ _ _ c.loop-i.invariant
    (omega (arith, c.size-n.ensures, c.loop-i-test.false))
