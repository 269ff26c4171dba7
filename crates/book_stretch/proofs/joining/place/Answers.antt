use Rattle.book_stretch.proofs.joining.place.Goals as goal

pub returns : goal.returns
returns c = rw c.add-k.ensures
