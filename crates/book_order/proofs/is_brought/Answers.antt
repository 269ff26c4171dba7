use Rattle.book_order.specs.Orders.{is_brought}
use Rattle.book_order.proofs.is_brought.Goals as goal

pub returns : goal.returns
unfolding is_brought
returns c = rw (c.could_come.ensures, c.are_none.ensures)
