use Rattle.book_stretch.proofs.joining.finish.Goals as goal

pub place-requires : goal.place-requires
place-requires c = rw c.if-j.false at c.requires

pub returns : goal.returns
returns c = cc
