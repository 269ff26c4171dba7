use Prim.Native.Nat.{◌+◌, ◌≤◌, ◌<◌}
use Rattle.reader_accent.proofs.Ends.{end_near, ends_whole, ends_other, ends_not, ends_far, far_near}
use lib.ListN.{length}
use native.Mathlib.Omega.{arith}
use Rattle.reader_accent.proofs.line_end.Goals as goal

pub returns-then-end-s : goal.returns-then-end-s
returns-then-end-s c = ends_whole c.args.t _ _ _ c.requires.0 c.requires.1 c.if-end-s.true

pub returns-then-s-end : goal.returns-then-s-end
returns-then-s-end c =
    let near : c.args.end ≤ length c.args.s.now = end_near c.args.t c.args.s.now c.args.at c.args.end c.requires.0 c.requires.1 in
    let inside : c.args.end < length c.args.s.now = omega (arith, near, c.if-end-s.false) in
    ends_other c.args.t _ _ _ c.requires.0 c.requires.1 inside c.if-s-end.true

pub returns-then-not-opens : goal.returns-then-not-opens
returns-then-not-opens c =
    ends_not c.args.t _ _ _ c.requires.0 c.requires.1 _ c.opens.ensures c.if-not-opens.true

pub returns : goal.returns
returns c =
    ends_far c.args.t _ _ _ c.requires.0 c.requires.1 _ c.opens.ensures c.if-not-opens.false _ c.plain_run.ensures

pub bounds-s-end : goal.bounds-s-end
bounds-s-end c =
    let near : c.args.end ≤ length c.args.s.now = end_near c.args.t c.args.s.now c.args.at c.args.end c.requires.0 c.requires.1 in
    let inside : c.args.end < length c.args.s.now = omega (arith, near, c.if-end-s.false) in
    inside

pub slice_bounds-opens-count : goal.slice_bounds-opens-count
slice_bounds-opens-count c = c.requires.0

pub slice_bounds-opens-start : goal.slice_bounds-opens-start
slice_bounds-opens-start c = c.requires.0

pub overflow_add-from : goal.overflow_add-from
overflow_add-from c =
    let near : c.args.end ≤ length c.args.s.now = end_near c.args.t c.args.s.now c.args.at c.args.end c.requires.0 c.requires.1 in
    let inside : c.args.end < length c.args.s.now = omega (arith, near, c.if-end-s.false) in
    omega (arith, inside)

pub slice_bounds-plain_run-count : goal.slice_bounds-plain_run-count
slice_bounds-plain_run-count c =
    let near : c.args.end ≤ length c.args.s.now = end_near c.args.t c.args.s.now c.args.at c.args.end c.requires.0 c.requires.1 in
    let inside : c.args.end < length c.args.s.now = omega (arith, near, c.if-end-s.false) in
    omega (arith, inside)

pub slice_bounds-plain_run-start : goal.slice_bounds-plain_run-start
slice_bounds-plain_run-start c =
    let near : c.args.end ≤ length c.args.s.now = end_near c.args.t c.args.s.now c.args.at c.args.end c.requires.0 c.requires.1 in
    let inside : c.args.end < length c.args.s.now = omega (arith, near, c.if-end-s.false) in
    omega (arith, inside)

pub overflow_add-result : goal.overflow_add-result
overflow_add-result c =
    let near : c.args.end ≤ length c.args.s.now = end_near c.args.t c.args.s.now c.args.at c.args.end c.requires.0 c.requires.1 in
    let inside : c.args.end < length c.args.s.now = omega (arith, near, c.if-end-s.false) in
    let past_near : c.args.end + 1 + c.plain_run.result ≤ length c.args.s.now = far_near c.args.t c.args.s.now c.args.at c.args.end c.requires.0 c.requires.1 inside _ c.plain_run.ensures in
    let far = past_near in omega arith
