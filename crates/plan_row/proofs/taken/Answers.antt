use Rattle.plan_row.proofs.Addresses.{four_here, four_on, over_on, over_end, one_here, one_on}
use Rattle.text.proofs.Fronts.{any_end}
use lib.ListN.{length}
use mathlib.Core.Path.{◌≡◌, sym, ◌∙◌}
use native.Mathlib.Omega.{arith}
use Rattle.plan_row.proofs.taken.Goals as goal

pub returns-then-four-key : goal.returns-then-four-key
returns-then-four-key c =
    let x = c.in-Some.ensures.steps.1 in
    sym (c.loop-four.invariant.1 ∙ four_here _ _ _ _ x.0 (x.1 ∙ c.loop-four.invariant.0) c.if-four-key.true)

pub loop-four-preserved : goal.loop-four-preserved
loop-four-preserved c =
    let x = c.in-Some.ensures.steps.1 in
    let n : length c.in-Some.four.now ≡ 4 = x.1 ∙ c.loop-four.invariant.0 in (
      c.in-Some.ensures.steps.0 ∙ c.loop-four.invariant.0,
      c.loop-four.invariant.1 ∙ four_on _ _ _ _ x.0 n c.if-four-key.false,
      c.loop-four.invariant.2 ∙ over_on _ _ _ x.0 n,
    )

pub loop-k-init : goal.loop-k-init
loop-k-init c =
    let e = c.loop-four.invariant.2 ∙ over_end _ (omega (arith, c.in-None.ensures.steps)) in
    rw e c.loop-four.invariant.1

pub returns-then-k-key : goal.returns-then-k-key
returns-then-k-key c = sym (c.loop-k.invariant ∙ one_here _ _ _ c.loop-k-test.true c.if-k-key.true)

pub loop-k-preserved : goal.loop-k-preserved
loop-k-preserved c = c.loop-k.invariant ∙ one_on _ _ _ c.loop-k-test.true c.if-k-key.false

pub returns : goal.returns
returns c = sym (c.loop-k.invariant ∙ any_end _ _ _ c.loop-k-test.false)
