use Prim.Native.Nat.{◌+◌, ◌≤◌}
use Rattle.reader_row.proofs.Halves.{cut_fits, half_fits, half_no, both_on, one_on}
use Rattle.text.specs.Bytes.{part, trim}
use Rattle.text_lines.proofs.Leaves.{span_holds}
use Rattle.text_lines.specs.Places.{HoldsText}
use native.Mathlib.Omega.{arith}
use Rattle.reader_row.proofs.skip_halves.Goals as goal

pub overflow_add-cut : goal.overflow_add-cut
overflow_add-cut c =
    let cut_in : c.args.p.from + c.first.result ≤ c.args.p.to = cut_fits c.args.file.now _ _ _ c.requires.2 c.requires.3 _ c.text.ensures c.first.ensures in
    omega (arith, cut_in)

pub trim_span-requires : goal.trim_span-requires
trim_span-requires c =
    let cut_in : c.args.p.from + c.first.result ≤ c.args.p.to = cut_fits c.args.file.now _ _ _ c.requires.2 c.requires.3 _ c.text.ensures c.first.ensures in
    (omega arith, omega (arith, cut_in), omega (arith, cut_in))

pub skip_mark-requires : goal.skip_mark-requires
skip_mark-requires c =
    let cut_in : c.args.p.from + c.first.result ≤ c.args.p.to = cut_fits c.args.file.now _ _ _ c.requires.2 c.requires.3 _ c.text.ensures c.first.ensures in
    let before_half : HoldsText c.args.file.now c.trim_span.result (trim (part c.args.p.from (c.args.p.from + c.first.result) c.args.file.now)) = span_holds _ _ _ (omega arith) (omega (arith, cut_in, c.requires.3)) _ c.trim_span.ensures in
    let w = before_half in (c.requires.0, c.requires.1, w.ordered, w.inside)

pub returns-in_default : goal.returns-in_default
returns-in_default c =
    let cut_in : c.args.p.from + c.first.result ≤ c.args.p.to = cut_fits c.args.file.now _ _ _ c.requires.2 c.requires.3 _ c.text.ensures c.first.ensures in
    let before_half : HoldsText c.args.file.now c.trim_span.result (trim (part c.args.p.from (c.args.p.from + c.first.result) c.args.file.now)) = span_holds _ _ _ (omega arith) (omega (arith, cut_in, c.requires.3)) _ c.trim_span.ensures in
    half_no _ _ _ _ c.requires.2 c.requires.3 _ c.text.ensures c.first.ensures _ _ c.requires.0 c.requires.1 _ before_half _ c.skip_mark.ensures
    c.in_default.is

pub skip_mark-requires-then-cut-to : goal.skip_mark-requires-then-cut-to
skip_mark-requires-then-cut-to c =
    let cut_in : c.args.p.from + c.first.result ≤ c.args.p.to = cut_fits c.args.file.now _ _ _ c.requires.2 c.requires.3 _ c.text.ensures c.first.ensures in
    let before_half : HoldsText c.args.file.now c.trim_span.result (trim (part c.args.p.from (c.args.p.from + c.first.result) c.args.file.now)) = span_holds _ _ _ (omega arith) (omega (arith, cut_in, c.requires.3)) _ c.trim_span.ensures in
    let half_near : c.in-Some.middle ≤ c.args.end = half_fits _ _ _ _ c.requires.2 c.requires.3 _ c.text.ensures c.first.ensures _ _ c.requires.0 c.requires.1 _ before_half _ c.skip_mark.ensures _
    c.in-Some.is in
    (half_near, c.requires.1, omega arith, c.requires.3)

pub returns-then-cut-to : goal.returns-then-cut-to
returns-then-cut-to c =
    let cut_in : c.args.p.from + c.first.result ≤ c.args.p.to = cut_fits c.args.file.now _ _ _ c.requires.2 c.requires.3 _ c.text.ensures c.first.ensures in
    let before_half : HoldsText c.args.file.now c.trim_span.result (trim (part c.args.p.from (c.args.p.from + c.first.result) c.args.file.now)) = span_holds _ _ _ (omega arith) (omega (arith, cut_in, c.requires.3)) _ c.trim_span.ensures in
    one_on _ _ _ _ c.requires.2 c.requires.3 _ c.text.ensures c.first.ensures _ _ c.requires.0 c.requires.1 _ before_half _ c.skip_mark.ensures _
    c.in-Some.is _ c.if-cut-to.true c.skip_mark-then-cut-to.ensures

pub overflow_add-cut-2 : goal.overflow_add-cut-2
overflow_add-cut-2 c =
    let cut_in : c.args.p.from + c.first.result ≤ c.args.p.to = cut_fits c.args.file.now _ _ _ c.requires.2 c.requires.3 _ c.text.ensures c.first.ensures in
    omega (arith, cut_in)

pub trim_span-requires-2 : goal.trim_span-requires-2
trim_span-requires-2 c =
    let cut_in : c.args.p.from + c.first.result ≤ c.args.p.to = cut_fits c.args.file.now _ _ _ c.requires.2 c.requires.3 _ c.text.ensures c.first.ensures in
    (omega (arith, cut_in), omega arith, omega arith)

pub skip_mark-requires-2 : goal.skip_mark-requires-2
skip_mark-requires-2 c =
    let cut_in : c.args.p.from + c.first.result ≤ c.args.p.to = cut_fits c.args.file.now _ _ _ c.requires.2 c.requires.3 _ c.text.ensures c.first.ensures in
    let before_half : HoldsText c.args.file.now c.trim_span.result (trim (part c.args.p.from (c.args.p.from + c.first.result) c.args.file.now)) = span_holds _ _ _ (omega arith) (omega (arith, cut_in, c.requires.3)) _ c.trim_span.ensures in
    let half_near : c.in-Some.middle ≤ c.args.end = half_fits _ _ _ _ c.requires.2 c.requires.3 _ c.text.ensures c.first.ensures _ _ c.requires.0 c.requires.1 _ before_half _ c.skip_mark.ensures _
    c.in-Some.is in
    let after_half : HoldsText c.args.file.now c.trim_span-2.result (trim (part (c.args.p.from + c.first.result + 1) c.args.p.to c.args.file.now)) = span_holds _ _ _ (omega (arith, cut_in, c.if-cut-to.false)) c.requires.3 _ c.trim_span-2.ensures in
    (half_near, c.requires.1, after_half.ordered, after_half.inside)

pub returns : goal.returns
returns c =
    let cut_in : c.args.p.from + c.first.result ≤ c.args.p.to = cut_fits c.args.file.now _ _ _ c.requires.2 c.requires.3 _ c.text.ensures c.first.ensures in
    let before_half : HoldsText c.args.file.now c.trim_span.result (trim (part c.args.p.from (c.args.p.from + c.first.result) c.args.file.now)) = span_holds _ _ _ (omega arith) (omega (arith, cut_in, c.requires.3)) _ c.trim_span.ensures in
    let after_half : HoldsText c.args.file.now c.trim_span-2.result (trim (part (c.args.p.from + c.first.result + 1) c.args.p.to c.args.file.now)) = span_holds _ _ _ (omega (arith, cut_in, c.if-cut-to.false)) c.requires.3 _ c.trim_span-2.ensures in
    both_on _ _ _ _ c.requires.2 c.requires.3 _ c.text.ensures c.first.ensures _ _ c.requires.0 c.requires.1 _ before_half _ c.skip_mark.ensures _
    c.in-Some.is _ _ after_half c.skip_mark-2.ensures
