use Prim.Native.Nat.{◌+◌, ◌≤◌}
use Rattle.reader_line.proofs.Meanings.{no_equals, no_label, a_label, value_fits, value_place}
use Rattle.text.proofs.Cuts.{front_count, upto_length}
use Rattle.text.specs.Bytes.{part, is}
use borrow.Author.Rules.{rules}
use mathlib.Core.Path.{◌∙◌}
use native.Mathlib.Omega.{arith}
use Rattle.reader_line.proofs.param_item.Goals as goal

pub returns-then-e-line : goal.returns-then-e-line
returns-then-e-line c =
    no_equals c.args.t _ c.args.at _ _ c.first-e.ensures c.nothing.ensures c.if-e-line.true

pub slice_bounds-trim-end : goal.slice_bounds-trim-end
slice_bounds-trim-end c =
    let x = part c.args.at c.args.end c.args.s.now in
    front_count x c.first-e.result (omega (arith, upto_length (is 61) x, c.first-e.ensures))

pub first_of-first-requires : goal.first_of-first-requires
first_of-first-requires c = c.second_of-second.ensures

pub returns-then-first-second : goal.returns-then-first-second
returns-then-first-second c =
    no_label c.args.t _ c.args.at _ _ c.first-e.ensures c.if-e-line.false _ c.trim-label.ensures _ _
    c.second_of-second.ensures c.first_of-first.ensures c.nothing-then-first-second.ensures c.if-first-second.true

pub overflow_add-at : goal.overflow_add-at
overflow_add-at c =
    let value_near : c.args.at + c.first-e.result + 1 ≤ c.args.end = value_fits c.args.s.now c.args.at c.args.end c.first-e.result c.requires.0 c.requires.1 c.first-e.ensures
    c.if-e-line.false in
    let near = value_near in omega arith

pub overflow_add-at-2 : goal.overflow_add-at-2
overflow_add-at-2 c =
    let value_near : c.args.at + c.first-e.result + 1 ≤ c.args.end = value_fits c.args.s.now c.args.at c.args.end c.first-e.result c.requires.0 c.requires.1 c.first-e.ensures
    c.if-e-line.false in
    let near = value_near in omega arith

pub trim_span-value-requires : goal.trim_span-value-requires
trim_span-value-requires c =
    let value_near : c.args.at + c.first-e.result + 1 ≤ c.args.end = value_fits c.args.s.now c.args.at c.args.end c.first-e.result c.requires.0 c.requires.1 c.first-e.ensures
    c.if-e-line.false in
    let near = value_near in search rules

pub returns : goal.returns
returns c =
    let left = c.if-e-line.false in
    a_label c.args.t _ c.args.at _ _ c.first-e.ensures left _ c.trim-label.ensures _ _
    c.second_of-second.ensures c.first_of-first.ensures _
    (c.trim_span-value.ensures ∙ value_place c.args.s.now c.args.at c.args.end _ c.requires.0 c.requires.1 c.first-e.ensures left)
    c.if-first-second.false
