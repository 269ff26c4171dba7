use Rattle.text.proofs.Loads.{word_four}
use Rattle.text.proofs.words.four.Goals as goal

pub returns : goal.returns
returns c =
    word_four c.args.s.now c.args.i c.requires
