use Rattle.book_order.proofs.is_partial.Goals as goal

pub returns : goal.returns
returns c = cc
