use Rattle.book_order.proofs.is_whole.Goals as goal

pub returns : goal.returns
returns c = rw (c.any_holds.ensures, c.time_of.ensures)
