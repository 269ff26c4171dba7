use Rattle.layout_label.specs.Labels.{words_of}
use Rattle.layout_label.proofs.labelled.Goals as goal

pub returns : goal.returns
unfolding words_of
returns c =
    rw (c.eight.ensures, c.eight-2.ensures, c.eight-3.ensures, c.eight-4.ensures, c.four.ensures)
