use Rattle.text.proofs.Chains.{all_is}
use Rattle.book_stretch.specs.Stretches.{is_none}
use Rattle.std.proofs.Common.{rules, ◌∙◌, tests}
use Rattle.std.proofs.lemmas.Iterator.{YieldsList-from_slice}
use Rattle.std.proofs.lemmas.Iterator.Search.{all_from_yields_List}
use Rattle.book_stretch.proofs.all_none.Goals as goal

pub returns : goal.returns
returns c =
    all_from_yields_List is_none _ _ c.all.result c.all.ensures.ran (YieldsList-from_slice c.args.list.now cc) (λ x b q k. search (rules, tests))
    ∙ all_is is_none c.args.list.now
