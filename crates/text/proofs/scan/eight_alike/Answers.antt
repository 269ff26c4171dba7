use Rattle.text.proofs.Cuts.{same_eight}
use Rattle.text.proofs.scan.eight_alike.Goals as goal

pub returns : goal.returns
returns c =
    same_eight c.args.a.now c.args.b.now c.args.i c.requires.0 c.requires.1
