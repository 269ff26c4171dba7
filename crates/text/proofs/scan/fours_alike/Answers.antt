use Rattle.text.proofs.Loads.{fours_same}
use Rattle.text.proofs.scan.fours_alike.Goals as goal

pub returns : goal.returns
returns c =
    fours_same c.args.a.now c.args.b.now c.args.n c.type_inv.a c.type_inv.b
    c.requires.2 c.requires.3 c.requires.0 c.requires.1
    c.four.ensures c.four-2.ensures c.four-3.ensures c.four-4.ensures
