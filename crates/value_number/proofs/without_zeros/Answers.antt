use Prim.Native.Nat.{◌-◌, ◌+◌}
use Rattle.value_number.proofs.Texts.{fraction_less, fraction_here, fraction_last}
use mathlib.Core.Path.{◌≡◌, ◌∙◌}
use native.Mathlib.Omega.{arith}
use Rattle.value_number.proofs.without_zeros.Goals as goal

pub returns-then-g-ne0 : goal.returns-then-g-ne0
returns-then-g-ne0 c =
    let l = c.loop-cut in
    (omega arith, l.invariant ∙ fraction_here (3 - l.cut) l.g (omega arith) c.if-g-ne0.true)

pub loop-cut-preserved : goal.loop-cut-preserved
loop-cut-preserved c =
    let l = c.loop-cut in
    let next : 3 - l.cut - 1 ≡ 3 - (l.cut + 1) = omega arith in
    l.invariant ∙ (rw next at (fraction_less (3 - l.cut) l.g (omega arith) c.if-g-ne0.false))

pub returns : goal.returns
returns c = (omega arith, c.loop-cut.invariant ∙ fraction_last (3 - c.loop-cut.cut) c.loop-cut.g (omega arith))
