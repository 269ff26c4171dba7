use Rattle.book_order.specs.Orders.{is_partial}
use Rattle.text.proofs.Chains.{any_is}
use Rattle.std.proofs.Common.{rules, ◌∙◌, tests, take}
use Rattle.std.proofs.lemmas.Iterator.{YieldsList-from_slice, YieldsList-from_take}
use Rattle.std.proofs.lemmas.Iterator.Search.{any_from_yields_List}
use Rattle.saved.proofs.any_partial.Goals as goal

pub returns : goal.returns
returns c =
    let a = c.args in
    any_from_yields_List is_partial _ _ c.any.result c.any.ensures.ran (YieldsList-from_take a.count (YieldsList-from_slice a.orders cc) cc)
    (λ x b q k. search (rules, tests))
    ∙ any_is is_partial (take a.count a.orders)
