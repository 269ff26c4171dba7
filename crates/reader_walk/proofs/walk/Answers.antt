use Prim.Native.Nat.{◌+◌, ◌≤◌}
use Rattle.reader_walk.proofs.Line.{first_le, second_le, kept_le}
use Rattle.reader_walk.proofs.Walking.{begin, item_is, end_is, first_small, second_small, end_near, finish, past_near, turned, stop, shorter}
use Rattle.reader_accent.proofs.Table.{accents_good}
use Rattle.reader_accent.specs.Accents.{accents_of}
use Rattle.text_lines.specs.Places.{line_run}
use lib.ListN.{drop}
use mathlib.Core.Path.{◌≡◌, sym, ◌∙◌}
use native.Mathlib.Omega.{arith}
use Rattle.reader_walk.proofs.walk.Goals as goal
use Rattle.reader_walk.proofs.walk.Goals.{else-loop-at-test, then-loop-at-test+in_default}

pub loop-at-init : goal.loop-at-init
loop-at-init c = begin _ _

pub line_of-item-requires : goal.line_of-item-requires
line_of-item-requires c = (c.loop-at.invariant.near, omega (arith, c.requires))

pub break_at-requires : goal.break_at-requires
break_at-requires c =
    let ended_at : c.line_of-item.result.end ≡ c.loop-at.at + line_run (accents_of c.args.t) (drop c.loop-at.at c.args.s.now) = end_is _ _ _ _ _ c.line_of-item.ensures in
    end_near _ (accents_good c.args.t) c.args.s.now c.loop-at.at c.line_of-item.result.end c.loop-at-test.true
    ended_at

pub note-a-requires : goal.note-a-requires
note-a-requires c =
    let first_near : c.line_of-item.result.first ≤ 26 = first_le _ _ _ _ _ (item_is _ _ _ _ _ c.line_of-item.ensures) in
    (first_near, first_small _ _ _ _ _ _ _ _ c.loop-at.invariant)

pub offset_bounds-places-i : goal.offset_bounds-places-i
offset_bounds-places-i c =
    let first_near : c.line_of-item.result.first ≤ 26 = first_le _ _ _ _ _ (item_is _ _ _ _ _ c.line_of-item.ensures) in
    let kept_first : c.note-a.result.into ≤ 26 = kept_le _ _ _ first_near c.note-a.ensures in
    let near = kept_first in omega arith

pub bounds-places-i : goal.bounds-places-i
bounds-places-i c =
    let first_near : c.line_of-item.result.first ≤ 26 = first_le _ _ _ _ _ (item_is _ _ _ _ _ c.line_of-item.ensures) in
    let kept_first : c.note-a.result.into ≤ 26 = kept_le _ _ _ first_near c.note-a.ensures in
    let near = kept_first in omega arith

pub note-b-requires : goal.note-b-requires
note-b-requires c =
    let second_near : c.line_of-item.result.second ≤ 26 = second_le _ _ _ _ _ (item_is _ _ _ _ _ c.line_of-item.ensures) in
    (second_near, second_small _ _ _ _ _ _ _ _ c.loop-at.invariant)

pub offset_bounds-others-j : goal.offset_bounds-others-j
offset_bounds-others-j c =
    let second_near : c.line_of-item.result.second ≤ 26 = second_le _ _ _ _ _ (item_is _ _ _ _ _ c.line_of-item.ensures) in
    let kept_second : c.note-b.result.into ≤ 26 = kept_le _ _ _ second_near c.note-b.ensures in
    let near = kept_second in omega arith

pub bounds-others-j : goal.bounds-others-j
bounds-others-j c =
    let second_near : c.line_of-item.result.second ≤ 26 = second_le _ _ _ _ _ (item_is _ _ _ _ _ c.line_of-item.ensures) in
    let kept_second : c.note-b.result.into ≤ 26 = kept_le _ _ _ second_near c.note-b.ensures in
    let near = kept_second in omega arith

pub turn_after-turn-requires : goal.turn_after-turn-requires
turn_after-turn-requires c =
    let first_near : c.line_of-item.result.first ≤ 26 = first_le _ _ _ _ _ (item_is _ _ _ _ _ c.line_of-item.ensures) in
    let second_near : c.line_of-item.result.second ≤ 26 = second_le _ _ _ _ _ (item_is _ _ _ _ _ c.line_of-item.ensures) in
    (first_near, second_near)

pub loop-at-smaller : goal.loop-at-smaller
loop-at-smaller c =
    let ended_at : c.line_of-item.result.end ≡ c.loop-at.at + line_run (accents_of c.args.t) (drop c.loop-at.at c.args.s.now) = end_is _ _ _ _ _ c.line_of-item.ensures in
    shorter _ (accents_good c.args.t) _ _ _ c.loop-at-test.true ended_at _
    (sym c.in-Some.is ∙ c.break_at.ensures)

pub loop-at-preserved : goal.loop-at-preserved
loop-at-preserved c =
    turned _ _ _ _ _ _ _ _ c.loop-at.invariant _ _ _ _ _ c.loop-at-test.true c.line_of-item.ensures
    (sym c.in-Some.is ∙ c.break_at.ensures)
    c.frame_in-frame.ensures c.note-a.ensures c.note-b.ensures

pub overflow_add-at : goal.overflow_add-at
overflow_add-at c =
    let ended_at : c.line_of-item.result.end ≡ c.loop-at.at + line_run (accents_of c.args.t) (drop c.loop-at.at c.args.s.now) = end_is _ _ _ _ _ c.line_of-item.ensures in
    let ended = sym c.in-Some.is ∙ c.break_at.ensures in
    let near =
    past_near _ (accents_good c.args.t) c.args.s.now c.loop-at.at c.line_of-item.result.end c.loop-at-test.true ended_at _ ended in
    omega (arith, near, c.requires)

pub returns : goal.returns
returns c =
    elim c.loop-at-test.branch [
      | else-loop-at-test x ↦ finish _ _ _ _ _ _ _ _ c.loop-at.invariant x.loop-at-test.false _ x.at-is c.handed.ensures
      | then-loop-at-test+in_default x ↦
          let end = end_is _ _ _ _ _ x.line_of-item.ensures in
          let bad = sym x.in_default.is ∙ x.break_at.ensures in
          stop _ _ _ _ _ _ _ _ c.loop-at.invariant _ x.loop-at-test.true end bad _ x.at-is c.handed.ensures
    ]
