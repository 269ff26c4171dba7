use Rattle.text.proofs.Loads.{eight_moved}
use Rattle.text.proofs.put.put_eight.Goals as goal

pub returns : goal.returns
returns c =
    eight_moved c.args.t.now c.args.i c.args.out.now c.args.at c.type_inv.t c.requires.1 c.eight.ensures
    c.put_word.ensures
