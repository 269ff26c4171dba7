use Rattle.plan_row.proofs.Lines.{number_key, number_place, number_open, number_not, number_is}
use Rattle.text.proofs.Cuts.{starts_length}
use Prim.Native.Nat.{◌+◌, ◌≤◌}
use lib.ListN.{length}
use mathlib.Core.Path.{sym, ◌∙◌}
use native.Mathlib.Omega.{arith}
use Rattle.plan_row.proofs.number_line.Goals as goal

pub returns-then-not-starts : goal.returns-then-not-starts
returns-then-not-starts c = number_key _ _ _ _ c.starts.ensures c.if-not-starts.true

pub slice_bounds-lead-count : goal.slice_bounds-lead-count
slice_bounds-lead-count c = starts_length _ _ (sym c.starts.ensures ∙ c.if-not-starts.false)

pub slice_bounds-lead-start : goal.slice_bounds-lead-start
slice_bounds-lead-start c = starts_length _ _ (sym c.starts.ensures ∙ c.if-not-starts.false)

pub overflow_add-e : goal.overflow_add-e
overflow_add-e c =
    let place : length c.args.key.now + c.lead-led.result.count ≤ length c.args.s.now = number_place c.args.key.now c.args.most c.args.s.now _ c.starts.ensures c.requires
    c.if-not-starts.false _ c.lead-led.ensures in
    omega (arith, place)

pub returns-then-e-s : goal.returns-then-e-s
returns-then-e-s c =
    number_open _ _ _ _ c.starts.ensures c.requires c.if-not-starts.false _ c.lead-led.ensures c.if-e-s.true

pub bounds-s-e : goal.bounds-s-e
bounds-s-e c =
    let place : length c.args.key.now + c.lead-led.result.count ≤ length c.args.s.now = number_place c.args.key.now c.args.most c.args.s.now _ c.starts.ensures c.requires
    c.if-not-starts.false _ c.lead-led.ensures in
    omega (arith, place)

pub bounds-s-n : goal.bounds-s-n
bounds-s-n c =
    let place : length c.args.key.now + c.lead-led.result.count ≤ length c.args.s.now = number_place c.args.key.now c.args.most c.args.s.now _ c.starts.ensures c.requires
    c.if-not-starts.false _ c.lead-led.ensures in
    omega (arith, place)

pub returns-then-s-e : goal.returns-then-s-e
returns-then-s-e c =
    number_not _ _ _ _ c.starts.ensures c.requires c.if-not-starts.false _ c.lead-led.ensures c.if-e-s.false
    c.if-s-e.true

pub returns : goal.returns
returns c =
    number_is _ _ _ _ c.starts.ensures c.requires c.if-not-starts.false _ c.lead-led.ensures c.if-e-s.false
    c.if-s-e.false
