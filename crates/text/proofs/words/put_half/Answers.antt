use Rattle.text.proofs.Loads.{put_four}
use native.Mathlib.Omega.{arith}
use Rattle.text.proofs.words.put_half.Goals as goal

pub returns : goal.returns
returns c = put_four c.args.out.now c.args.i c.args.w (omega arith)
