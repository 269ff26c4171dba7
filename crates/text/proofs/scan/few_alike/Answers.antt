use Rattle.text.proofs.Cuts.{alike_here, alike_on, alike_end}
use mathlib.Core.Path.{sym, ◌∙◌}
use Rattle.text.proofs.scan.few_alike.Goals as goal

pub returns-then-a-i : goal.returns-then-a-i
returns-then-a-i c =
    sym (c.loop-i.invariant ∙ alike_here _ _ _ _ c.requires.0 c.requires.1 c.loop-i-test.true c.if-a-i.true)

pub loop-i-preserved : goal.loop-i-preserved
loop-i-preserved c =
    c.loop-i.invariant ∙ alike_on _ _ _ _ c.requires.0 c.requires.1 c.loop-i-test.true c.if-a-i.false

pub returns : goal.returns
returns c =
    sym (c.loop-i.invariant ∙ alike_end _ _ _ _ c.requires.0 c.requires.1 c.loop-i-test.false)
