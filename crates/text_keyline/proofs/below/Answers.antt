use Rattle.text_keyline.proofs.Values.{below_at}
use Rattle.text.proofs.Cuts.{upto_length}
use Rattle.text.specs.Bytes.{is}
use native.Mathlib.Omega.{arith}
use Rattle.text_keyline.proofs.below.Goals as goal

pub overflow_add-e : goal.overflow_add-e
overflow_add-e c = omega (arith, upto_length (is 10) c.args.s.now)

pub returns : goal.returns
returns c = below_at _ _ _ c.first-e.ensures c.rest.ensures
