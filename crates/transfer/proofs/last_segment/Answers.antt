use Rattle.transfer.proofs.Turns.{at_end, section_ends}
use Rattle.transfer.specs.Collect.{in_turn, taken_as}
use Rattle.transfer_unit.specs.declared.Told.TheVariants.{LastSegment}
use borrow.Author.Tests.{lt-ltb, le-ltb}
use mathlib.Core.Bool.{true}
use mathlib.Core.Path.{◌≡◌, sym, ◌∙◌}
use Rattle.transfer.proofs.last_segment.Goals as goal
use Rattle.transfer.proofs.last_segment.Goals.{then-not-is_open-via-then-not-is_open, then-not-is_open-via-else-not-is_open+then-c}

pub returns-then-not-is_open : goal.returns-then-not-is_open
unfolding taken_as
returns-then-not-is_open c = elim c.then-not-is_open.branch [
  | then-not-is_open-via-then-not-is_open w ↦ (c.dropped.ensures.0 ∙ rw (sym w.if-not-is_open.ensures), c.dropped.ensures.1)
  | then-not-is_open-via-else-not-is_open+then-c w ↦
      (c.dropped.ensures.0 ∙ rw (sym w.if-not-is_open.ensures, le-ltb _ _ w.if-c.true), c.dropped.ensures.1)
]

pub returns-in-Ok : goal.returns-in-Ok
returns-in-Ok c =
    let turn : in_turn c.args.c (LastSegment c.args.i c.args.sum) ≡ true = rw (sym c.if-not-is_open.ensures, lt-ltb _ _ c.if-c.false) in
    let judged = rw (c.front-section.ensures, c.rest.ensures) at c.ended.ensures in
    let ends = at_end _ _ _ turn (sym c.in-Ok.is ∙ judged) in
    (c.onward.ensures.0 ∙ section_ends c.args.c _ (sym c.if-not-is_open.ensures) ends.0, c.onward.ensures.1)

pub returns-in-Err : goal.returns-in-Err
returns-in-Err c =
    let turn : in_turn c.args.c (LastSegment c.args.i c.args.sum) ≡ true = rw (sym c.if-not-is_open.ensures, lt-ltb _ _ c.if-c.false) in
    let judged = rw (c.front-section.ensures, c.rest.ensures) at c.ended.ensures in
    let ends = at_end _ _ _ turn (sym c.in-Err.is ∙ judged) in
    (c.dropped-in-Err.ensures.0 ∙ ends.0, c.dropped-in-Err.ensures.1 ∙ ends.1)
