use Rattle.transfer.proofs.Turns.{fresh_is, unlike, alike}
use Rattle.transfer.specs.Collect.{taken_as}
use borrow.Author.Tests.{lt-ltb, le-ltb}
use mathlib.Core.Path.{◌∙◌}
use Rattle.transfer.proofs.file_ready.Goals as goal

pub returns-then-ne : goal.returns-then-ne
unfolding taken_as
returns-then-ne c = (c.dropped.ensures.0 ∙ rw (unlike (fresh_is _) c.if-ne.ensures), c.dropped.ensures.1)

pub returns-then-n-gt8192 : goal.returns-then-n-gt8192
unfolding taken_as
returns-then-n-gt8192 c =
    (c.dropped-then-n-gt8192.ensures.0 ∙ rw (alike (fresh_is _) c.if-ne.ensures, lt-ltb _ _ c.if-n-gt8192.true), c.dropped-then-n-gt8192.ensures.1)

pub returns : goal.returns
unfolding taken_as
returns c = (
  c.onward.ensures.0
      ∙ rw (alike (fresh_is _) c.if-ne.ensures, le-ltb _ _ c.if-n-gt8192.false, c.fresh.ensures, c.ca_of.ensures, c.ioa_of.ensures),
  c.onward.ensures.1,
)
