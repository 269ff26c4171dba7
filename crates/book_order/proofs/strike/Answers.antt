use Rattle.book_order.proofs.Strikes.{sticks_out, struck_already, a_fifth, struck_now}
use borrow.Author.Rules.{rules}
use mathlib.Core.Bool.{not}
use mathlib.Core.Path.{refl, ap}
use Rattle.book_order.proofs.strike.Goals as goal

pub returns-then-not-lies : goal.returns-then-not-lies
returns-then-not-lies c = (search (sticks_out, rules), refl)

pub returns-then-any_holds : goal.returns-then-any_holds
returns-then-any_holds c = (search (struck_already, rules), refl)

pub returns-then-joined-gt4 : goal.returns-then-joined-gt4
returns-then-joined-gt4 c = (search (a_fifth, rules), refl)

pub returns : goal.returns
returns c =
    let a = c.args in (
      struck_now a.over a.o _ c.time_of.ensures _ c.lies.ensures (ap not c.if-not-lies.false) _ c.any_holds.ensures c.if-any_holds.false
          _ c.join-joined.ensures c.if-joined-gt4.false _ refl,
      refl,
    )
