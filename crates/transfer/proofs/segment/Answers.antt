use Rattle.transfer.proofs.Turns.{open_by}
use Rattle.transfer.specs.Collect.{taken_as, kept_as}
use borrow.Author.Tests.{lt-ltb, le-ltb}
use lib.Seq.{sets}
use mathlib.Core.Path.{ap, ◌∙◌}
use Rattle.transfer.proofs.segment.Goals as goal

pub returns-then-not-eq-is_next : goal.returns-then-not-eq-is_next
unfolding taken_as kept_as
returns-then-not-eq-is_next c =
    let shut = open_by c.args.c c.args.i c.eq.ensures c.is_next.ensures c.if-not-eq-is_next.true in
    (c.dropped.ensures.0 ∙ rw shut, rw shut, c.dropped.ensures.1)

pub returns-then-count-gt8192 : goal.returns-then-count-gt8192
unfolding taken_as kept_as
returns-then-count-gt8192 c =
    let open_is = open_by c.args.c c.args.i c.eq.ensures c.is_next.ensures c.if-not-eq-is_next.false in
    let long = lt-ltb _ _ c.if-count-gt8192.true in
    (c.dropped-then-count-gt8192.ensures.0 ∙ rw (open_is, long), rw (open_is, long), c.dropped-then-count-gt8192.ensures.1)

pub returns : goal.returns
unfolding taken_as kept_as
returns c =
    let open_is = open_by c.args.c c.args.i c.eq.ensures c.is_next.ensures c.if-not-eq-is_next.false in
    let long = le-ltb _ _ c.if-count-gt8192.false in
    (c.onward.ensures.0 ∙ rw (open_is, long), rw (open_is, long) (c.put_text.ensures.1 ∙ ap (sets _ _) c.rest.ensures), c.onward.ensures.1)
