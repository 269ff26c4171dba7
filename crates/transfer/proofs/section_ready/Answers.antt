use Rattle.transfer.proofs.Turns.{between_is, unlike, alike}
use Rattle.transfer.specs.Collect.{taken_as}
use borrow.Author.Tests.{lt-ltb, le-ltb}
use mathlib.Core.Path.{sym, ◌∙◌}
use Rattle.transfer.proofs.section_ready.Goals as goal
use Rattle.transfer.proofs.section_ready.Goals.{then-ne-via-then-ne, then-ne-via-else-ne+then-not-is_next}

pub returns-then-ne : goal.returns-then-ne
unfolding taken_as
returns-then-ne c = elim c.then-ne.branch [
  | then-ne-via-then-ne w ↦ (c.dropped.ensures.0 ∙ rw (unlike (between_is _) w.if-ne.ensures), c.dropped.ensures.1)
  | then-ne-via-else-ne+then-not-is_next w ↦
      (c.dropped.ensures.0 ∙ rw (alike (between_is _) w.if-ne.ensures, sym w.if-not-is_next.ensures), c.dropped.ensures.1)
]

pub returns-then-n-gt8192 : goal.returns-then-n-gt8192
unfolding taken_as
returns-then-n-gt8192 c = (
  c.dropped-then-n-gt8192.ensures.0
      ∙ rw (alike (between_is _) c.if-ne.ensures, sym c.if-not-is_next.ensures, lt-ltb _ _ c.if-n-gt8192.true),
  c.dropped-then-n-gt8192.ensures.1,
)

pub returns : goal.returns
unfolding taken_as
returns c =
    (c.onward.ensures.0 ∙ rw (alike (between_is _) c.if-ne.ensures, sym c.if-not-is_next.ensures, le-ltb _ _ c.if-n-gt8192.false), c.onward.ensures.1)
