use Rattle.layout_label.proofs.Texts.{text_put}
use Rattle.layout_label.proofs.put_label.Goals as goal

pub returns : goal.returns
returns c =
    let a = c.args in
    text_put a.l a.out.now a.i c.put_word.ensures c.put_word-2.ensures c.put_word-3.ensures
    c.put_word-4.ensures c.put_half.ensures
