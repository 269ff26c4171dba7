use Prim.Native.Nat.{◌+◌, ◌≤◌}
use Rattle.reader_line.proofs.Accents.{same_end, far_inside, far_ordered, row_far, value_inside, field_far}
use lib.ListN.{length}
use native.Mathlib.Omega.{arith}
use Rattle.reader_line.proofs.accented_item.Goals as goal

pub line_end-far-requires : goal.line_end-far-requires
line_end-far-requires c = (c.requires.0, c.requires.2)

pub returns-then-far-end : goal.returns-then-far-end
returns-then-far-end c =
    same_end c.args.t _ _ _ _ c.requires.0 c.requires.2 _ c.requires.3 _ c.line_end-far.ensures c.if-far-end.true

pub row_item-requires : goal.row_item-requires
row_item-requires c =
    let ordered : c.args.at ≤ c.line_end-far.result = far_ordered c.args.t c.args.s.now _ _ _ c.requires.0 c.requires.2 _ c.requires.3 _ c.line_end-far.ensures in
    let inside : c.line_end-far.result ≤ length c.args.s.now = far_inside c.args.t _ c.args.at _ _ c.requires.0 c.requires.2 _ c.requires.3 _ c.line_end-far.ensures in
    (ordered, inside, omega (arith, inside, c.requires.1))

pub returns-then-seps-eq1 : goal.returns-then-seps-eq1
returns-then-seps-eq1 c =
    row_far c.args.t _ _ _ _ c.requires.0 c.requires.2 _ c.requires.3 _ c.line_end-far.ensures c.if-seps-eq1.true _ c.row_item.ensures

pub trim_span-value-requires : goal.trim_span-value-requires
trim_span-value-requires c =
    let value_near : c.args.at + c.first-e.result + 1 ≤ c.line_end-far.result = value_inside c.args.t c.args.s.now _ _ _ c.requires.0 c.requires.2 _ c.requires.3 _ c.line_end-far.ensures c.if-far-end.false
    _ c.first-e.ensures in
    let inside : c.line_end-far.result ≤ length c.args.s.now = far_inside c.args.t _ c.args.at _ _ c.requires.0 c.requires.2 _ c.requires.3 _ c.line_end-far.ensures in
    (value_near, inside, omega (arith, inside, c.requires.1))

pub returns : goal.returns
returns c =
    field_far c.args.t _ _ _ _ c.requires.0 c.requires.2 _ c.requires.3 _ c.line_end-far.ensures c.if-far-end.false _ c.first-e.ensures
    _ c.trim.ensures _ c.field_of-first.ensures c.if-seps-eq1.false _ c.trim_span-value.ensures

pub slice_bounds-first-count : goal.slice_bounds-first-count
slice_bounds-first-count c =
    let ordered : c.args.at ≤ c.line_end-far.result = far_ordered c.args.t c.args.s.now _ _ _ c.requires.0 c.requires.2 _ c.requires.3 _ c.line_end-far.ensures in
    ordered

pub slice_bounds-first-start : goal.slice_bounds-first-start
slice_bounds-first-start c =
    let ordered : c.args.at ≤ c.line_end-far.result = far_ordered c.args.t c.args.s.now _ _ _ c.requires.0 c.requires.2 _ c.requires.3 _ c.line_end-far.ensures in
    ordered

pub slice_bounds-first-end : goal.slice_bounds-first-end
slice_bounds-first-end c =
    let inside : c.line_end-far.result ≤ length c.args.s.now = far_inside c.args.t _ c.args.at _ _ c.requires.0 c.requires.2 _ c.requires.3 _ c.line_end-far.ensures in
    inside

pub overflow_add-at : goal.overflow_add-at
overflow_add-at c =
    let value_near : c.args.at + c.first-e.result + 1 ≤ c.line_end-far.result = value_inside c.args.t c.args.s.now _ _ _ c.requires.0 c.requires.2 _ c.requires.3 _ c.line_end-far.ensures c.if-far-end.false
    _ c.first-e.ensures in
    let inside : c.line_end-far.result ≤ length c.args.s.now = far_inside c.args.t _ c.args.at _ _ c.requires.0 c.requires.2 _ c.requires.3 _ c.line_end-far.ensures in
    let near = value_near in let far = inside in omega arith

pub slice_bounds-trim-end : goal.slice_bounds-trim-end
slice_bounds-trim-end c =
    let value_near : c.args.at + c.first-e.result + 1 ≤ c.line_end-far.result = value_inside c.args.t c.args.s.now _ _ _ c.requires.0 c.requires.2 _ c.requires.3 _ c.line_end-far.ensures c.if-far-end.false
    _ c.first-e.ensures in
    let inside : c.line_end-far.result ≤ length c.args.s.now = far_inside c.args.t _ c.args.at _ _ c.requires.0 c.requires.2 _ c.requires.3 _ c.line_end-far.ensures in
    let near = value_near in let far = inside in omega arith

pub overflow_add-at-2 : goal.overflow_add-at-2
overflow_add-at-2 c =
    let value_near : c.args.at + c.first-e.result + 1 ≤ c.line_end-far.result = value_inside c.args.t c.args.s.now _ _ _ c.requires.0 c.requires.2 _ c.requires.3 _ c.line_end-far.ensures c.if-far-end.false
    _ c.first-e.ensures in
    let inside : c.line_end-far.result ≤ length c.args.s.now = far_inside c.args.t _ c.args.at _ _ c.requires.0 c.requires.2 _ c.requires.3 _ c.line_end-far.ensures in
    let near = value_near in let far = inside in omega arith

pub overflow_add-at-3 : goal.overflow_add-at-3
overflow_add-at-3 c =
    let value_near : c.args.at + c.first-e.result + 1 ≤ c.line_end-far.result = value_inside c.args.t c.args.s.now _ _ _ c.requires.0 c.requires.2 _ c.requires.3 _ c.line_end-far.ensures c.if-far-end.false
    _ c.first-e.ensures in
    let inside : c.line_end-far.result ≤ length c.args.s.now = far_inside c.args.t _ c.args.at _ _ c.requires.0 c.requires.2 _ c.requires.3 _ c.line_end-far.ensures in
    let near = value_near in let far = inside in omega arith
