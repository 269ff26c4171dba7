use Prim.Native.Nat.{◌+◌, ◌≤◌, ◌<◌}
use Rattle.reader_line.proofs.Accents.{whole_line, other_byte}
use Rattle.reader_line.proofs.Tries.{head_inside, run_inside, met, run_there}
use Rattle.text_lines.specs.Places.{plain_run}
use lib.ListN.{length, drop}
use mathlib.Core.Path.{◌≡◌}
use native.Mathlib.Omega.{arith}
use Rattle.reader_line.proofs.line_of.Goals as goal

pub overflow_add-from : goal.overflow_add-from
overflow_add-from c =
    let head_near : c.args.at + c.expected_head-h.result ≤ length c.args.s.now = let z = c.args in
    head_inside z.t z.s.now z.at z.seps c.expect-e.result c.expect-e.ensures c.expected_head-h.result 0
    c.requires.0 c.expected_head-h.ensures in
    let near = head_near in omega arith

pub slice_bounds-plain_run-count : goal.slice_bounds-plain_run-count
slice_bounds-plain_run-count c =
    let head_near : c.args.at + c.expected_head-h.result ≤ length c.args.s.now = let z = c.args in
    head_inside z.t z.s.now z.at z.seps c.expect-e.result c.expect-e.ensures c.expected_head-h.result 0
    c.requires.0 c.expected_head-h.ensures in
    head_near

pub slice_bounds-plain_run-start : goal.slice_bounds-plain_run-start
slice_bounds-plain_run-start c =
    let head_near : c.args.at + c.expected_head-h.result ≤ length c.args.s.now = let z = c.args in
    head_inside z.t z.s.now z.at z.seps c.expect-e.result c.expect-e.ensures c.expected_head-h.result 0
    c.requires.0 c.expected_head-h.ensures in
    head_near

pub overflow_add-end : goal.overflow_add-end
overflow_add-end c =
    let end_near : c.args.at + c.expected_head-h.result + c.plain_run.result ≤ length c.args.s.now = let z = c.args in
    run_inside z.t z.s.now z.at z.seps c.expect-e.result c.expect-e.ensures _ _ c.requires.0
    c.expected_head-h.ensures
    c.plain_run.ensures in
    let near = end_near in omega arith

pub trim_span-value-requires : goal.trim_span-value-requires
trim_span-value-requires c =
    let end_near : c.args.at + c.expected_head-h.result + c.plain_run.result ≤ length c.args.s.now = let z = c.args in
    run_inside z.t z.s.now z.at z.seps c.expect-e.result c.expect-e.ensures _ _ c.requires.0
    c.expected_head-h.ensures
    c.plain_run.ensures in
    let near = end_near in (omega arith, near, omega arith)

pub returns-then-h-gt0 : goal.returns-then-h-gt0
returns-then-h-gt0 c =
    met _ _ _ _ _ c.expect-e.ensures _ _ c.requires.0 c.expected_head-h.ensures
    c.plain_run.ensures c.if-h-gt0.true _ c.trim_span-value.ensures

pub other_item-plain-requires : goal.other_item-plain-requires
other_item-plain-requires c =
    let end_near : c.args.at + c.expected_head-h.result + c.plain_run.result ≤ length c.args.s.now = let z = c.args in
    run_inside z.t z.s.now z.at z.seps c.expect-e.result c.expect-e.ensures _ _ c.requires.0
    c.expected_head-h.ensures
    c.plain_run.ensures in
    let near = end_near in (omega arith, near, omega arith)

pub returns-then-end-s : goal.returns-then-end-s
returns-then-end-s c =
    let there : c.args.at + c.expected_head-h.result + c.plain_run.result ≡ c.args.at + plain_run (drop c.args.at c.args.s.now) = run_there c.args.t c.args.s.now c.args.at c.args.seps _ c.expect-e.ensures _ _ c.requires.0
    c.expected_head-h.ensures c.plain_run.ensures c.if-h-gt0.false in
    whole_line c.args.t _ _ _ _ c.requires.0 there _ c.other_item-plain.ensures c.if-end-s.true

pub returns-then-s-end : goal.returns-then-s-end
returns-then-s-end c =
    let there : c.args.at + c.expected_head-h.result + c.plain_run.result ≡ c.args.at + plain_run (drop c.args.at c.args.s.now) = run_there c.args.t c.args.s.now c.args.at c.args.seps _ c.expect-e.ensures _ _ c.requires.0
    c.expected_head-h.ensures c.plain_run.ensures c.if-h-gt0.false in
    let end_near : c.args.at + c.expected_head-h.result + c.plain_run.result ≤ length c.args.s.now = let z = c.args in
    run_inside z.t z.s.now z.at z.seps c.expect-e.result c.expect-e.ensures _ _ c.requires.0
    c.expected_head-h.ensures
    c.plain_run.ensures in
    let inside : c.args.at + c.expected_head-h.result + c.plain_run.result < length c.args.s.now = omega (arith, end_near, c.if-end-s.false) in
    other_byte c.args.t _ _ _ _ c.requires.0 there _ c.other_item-plain.ensures inside c.if-s-end.true

pub accented_item-requires : goal.accented_item-requires
accented_item-requires c =
    let there : c.args.at + c.expected_head-h.result + c.plain_run.result ≡ c.args.at + plain_run (drop c.args.at c.args.s.now) = run_there c.args.t c.args.s.now c.args.at c.args.seps _ c.expect-e.ensures _ _ c.requires.0
    c.expected_head-h.ensures c.plain_run.ensures c.if-h-gt0.false in
    (c.requires.0, c.requires.1, there, c.other_item-plain.ensures)

pub bounds-s-end : goal.bounds-s-end
bounds-s-end c =
    let end_near : c.args.at + c.expected_head-h.result + c.plain_run.result ≤ length c.args.s.now = let z = c.args in
    run_inside z.t z.s.now z.at z.seps c.expect-e.result c.expect-e.ensures _ _ c.requires.0
    c.expected_head-h.ensures
    c.plain_run.ensures in
    let inside : c.args.at + c.expected_head-h.result + c.plain_run.result < length c.args.s.now = omega (arith, end_near, c.if-end-s.false) in
    inside

pub returns : goal.returns
returns c = c.accented_item.ensures
