use Rattle.text.proofs.Cuts.{all_of_eight}
use Rattle.text.proofs.scan.eight_pass.Goals as goal

pub returns : goal.returns
returns g c = cc (all_of_eight (g.T.ByteTest.passes c.args.test.now) 0 c.args.eight.now c.requires)
