use Rattle.book_order.proofs.Tested.{live_not, live_is}
use Rattle.book_order.proofs.is_live.Goals as goal

-- Outside its time, or by what is struck of it; written out, so that a wrong version is refused by what differs.
pub returns-then-t-o : goal.returns-then-t-o
returns-then-t-o c = let a = c.args in live_not a.t a.o c.if-t-o.true

pub returns : goal.returns
returns c =
    let a = c.args in
    live_is a.t a.o c.if-t-o.false _ c.any_covers.ensures
