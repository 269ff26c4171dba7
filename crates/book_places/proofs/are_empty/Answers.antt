use Rattle.book_order.specs.Orders.{is_empty}
use Rattle.text.proofs.Chains.{all_is}
use Rattle.std.proofs.Common.{rules, ◌∙◌, tests}
use Rattle.std.proofs.lemmas.Iterator.{YieldsList-from_slice}
use Rattle.std.proofs.lemmas.Iterator.Search.{all_from_yields_List}
use Rattle.book_places.proofs.are_empty.Goals as goal

pub returns : goal.returns
returns c =
    all_from_yields_List is_empty _ _ c.all.result c.all.ensures.ran (YieldsList-from_slice c.args.orders.now cc) (λ x b q k. search (rules, tests))
    ∙ all_is is_empty c.args.orders.now
