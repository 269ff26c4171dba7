use Rattle.book_places.proofs.Ends.{next_fold}
use Rattle.book_lists.specs.Keyed.{sooner}
use Rattle.book_order.specs.declared.Order.{Order}
use Rattle.std.proofs.Common.{rules, ◌∙◌, take}
use Rattle.std.proofs.lemmas.Iterator.{YieldsList-from_slice, YieldsList-from_take}
use Rattle.std.proofs.lemmas.Iterator.Consumers.{fold_from_yields_List}
use Rattle.book_places.proofs.next_end.Goals as goal

pub returns : goal.returns
returns c =
    let a = c.args in
    let first = YieldsList-from_take a.count (YieldsList-from_slice a.orders cc) cc in
    fold_from_yields_List _ (λ next (o : Order). sooner next o.end) 0 _ c.fold.ensures.ran first (λ a x b q k. search rules)
    ∙ next_fold 0 (take a.count a.orders)
