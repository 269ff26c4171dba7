use Rattle.transfer.proofs.Turns.{between_is, unlike, alike, at_end}
use Rattle.transfer.specs.Collect.{in_turn, taken_as}
use Rattle.transfer_unit.specs.declared.Told.TheVariants.{LastSection}
use borrow.Author.Tests.{lt-ltb, le-ltb, eq-eqb, ne_eqb}
use mathlib.Core.Bool.{true}
use mathlib.Core.Path.{◌≡◌, sym, ◌∙◌}
use native.Mathlib.Omega.{arith}
use Rattle.transfer.proofs.last_section.Goals as goal
use Rattle.transfer.proofs.last_section.Goals.{then-ne-via-then-ne, then-ne-via-else-ne+then-i-c, then-ne-via-else-ne+else-i-c+then-c-eq0}
use Rattle.transfer.proofs.last_section.Goals.{then-ne-via-else-ne+else-i-c+else-c-eq0+then-c-eq0-2}

pub returns-then-ne : goal.returns-then-ne
unfolding taken_as
returns-then-ne c = elim c.then-ne.branch [
  | then-ne-via-then-ne w ↦ (c.dropped.ensures.0 ∙ rw (unlike (between_is _) w.if-ne.ensures), c.dropped.ensures.1)
  | then-ne-via-else-ne+then-i-c w ↦
      (c.dropped.ensures.0 ∙ rw (alike (between_is _) w.if-ne.ensures, ne_eqb _ _ w.if-i-c.true), c.dropped.ensures.1)
  | then-ne-via-else-ne+else-i-c+then-c-eq0 w ↦
      (c.dropped.ensures.0 ∙ rw (alike (between_is _) w.if-ne.ensures, eq-eqb _ _ w.if-i-c.false, le-ltb 0 c.args.c.ended (omega arith)), c.dropped.ensures.1)
  | then-ne-via-else-ne+else-i-c+else-c-eq0+then-c-eq0-2 w ↦ (
    c.dropped.ensures.0
        ∙ rw (
          alike (between_is _) w.if-ne.ensures,
          eq-eqb _ _ w.if-i-c.false,
          lt-ltb 0 c.args.c.ended (omega arith),
          le-ltb 0 c.args.c.count (omega arith),
        ),
    c.dropped.ensures.1,
  )
]

pub returns-in-Ok : goal.returns-in-Ok
returns-in-Ok c =
    let turn : in_turn c.args.c (LastSection c.args.i c.args.sum) ≡ true =
    rw (alike (between_is _) c.if-ne.ensures, eq-eqb _ _ c.if-i-c.false, lt-ltb 0 c.args.c.ended (omega arith), lt-ltb 0 c.args.c.count (omega arith)) in
    let judged = rw c.front-octets.ensures at c.ended.ensures in
    rw c.fresh.ensures (at_end _ _ _ turn (sym c.in-Ok.is ∙ judged))

pub returns-in-Err : goal.returns-in-Err
returns-in-Err c =
    let turn : in_turn c.args.c (LastSection c.args.i c.args.sum) ≡ true =
    rw (alike (between_is _) c.if-ne.ensures, eq-eqb _ _ c.if-i-c.false, lt-ltb 0 c.args.c.ended (omega arith), lt-ltb 0 c.args.c.count (omega arith)) in
    let judged = rw c.front-octets.ensures at c.ended.ensures in
    let ends = at_end _ _ _ turn (sym c.in-Err.is ∙ judged) in
    (c.dropped-in-Err.ensures.0 ∙ ends.0, c.dropped-in-Err.ensures.1 ∙ ends.1)
