use Rattle.text.proofs.Chains.{any_is}
use Rattle.book_stretch.specs.Stretches.{lies}
use Rattle.std.proofs.Common.{rules, ◌∙◌, tests}
use Rattle.std.proofs.lemmas.Iterator.{YieldsList-from_slice}
use Rattle.std.proofs.lemmas.Iterator.Search.{any_from_yields_List}
use Rattle.book_stretch.proofs.any_holds.Goals as goal

pub returns : goal.returns
returns c =
    any_from_yields_List (lies c.args.s) _ _ c.any.result c.any.ensures.ran (YieldsList-from_slice c.args.list cc) (λ x b q k. search (rules, tests))
    ∙ any_is (lies c.args.s) c.args.list
