use Rattle.text.proofs.Loads.{halves_put}
use native.Mathlib.Omega.{arith}
use Rattle.text.proofs.words.put_word.Goals as goal

pub returns : goal.returns
returns c =
    halves_put c.args.out.now c.args.i c.args.w (omega arith) c.put_half.ensures c.put_half-2.ensures
