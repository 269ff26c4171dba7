use Rattle.text.proofs.Loads.{word_halves}
use Rattle.text.proofs.words.eight.Goals as goal

pub returns : goal.returns
returns c =
    word_halves c.args.s.now c.args.i c.requires c.four-low.ensures c.four-high.ensures
