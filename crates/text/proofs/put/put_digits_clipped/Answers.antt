use Rattle.text.proofs.Runs.{digit_step, digit_end}
use mathlib.Core.Path.{refl, sym, ◌∙◌}
use native.Mathlib.Omega.{arith}
use Rattle.text.proofs.put.put_digits_clipped.Goals as goal

pub loop-j-preserved : goal.loop-j-preserved
loop-j-preserved c = digit_step _ _ _ c.loop-j.j _ c.loop-j-test.true c.put_byte.ensures.1 ∙ c.loop-j.invariant

pub returns : goal.returns
returns c = (refl, sym (digit_end _ _ c.loop-j.j _ (omega arith)) ∙ c.loop-j.invariant)
