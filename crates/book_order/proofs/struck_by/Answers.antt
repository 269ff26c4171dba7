use Rattle.book_order.proofs.Brought.{start_small, end_small, stretch_is}
use borrow.Author.Rules.{rules}
use native.Mathlib.Omega.{arith}
use Rattle.book_order.proofs.struck_by.Goals as goal

pub overflow_cast-result : goal.overflow_cast-result
overflow_cast-result c =
    let q = start_small c.args.r _ c.of_record-told.ensures _ c.instant_in.ensures c.requires.0 in
    record { fits = omega (arith, q) }

pub overflow_cast-result-2 : goal.overflow_cast-result-2
overflow_cast-result-2 c =
    let q = end_small c.args.r _ c.of_record-told.ensures _ c.instant_in-2.ensures c.requires.1 in
    record { fits = omega (arith, q) }

pub returns : goal.returns
returns c = search (stretch_is, rules)
