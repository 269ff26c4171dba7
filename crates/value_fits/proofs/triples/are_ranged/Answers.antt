use Rattle.std.proofs.Common.{rules, tests, ◌∙◌, take}
use Rattle.std.proofs.lemmas.Iterator.{YieldsList-from_slice}
use Rattle.std.proofs.lemmas.Iterator.Search.{all_from_yields_List}
use Rattle.text.proofs.Chains.{all_is}
use Rattle.value_fits.specs.Fits.{is_ranged}
use Rattle.value_fits.proofs.triples.are_ranged.Goals as goal

pub returns : goal.returns
returns c =
    let first = take c.args.n c.args.values in
    all_from_yields_List is_ranged c.all.new.self _ _ c.all.ensures.ran (YieldsList-from_slice {s = c.iter.result} first (cc)) (λ x b q k. search (rules, tests))
    ∙ all_is is_ranged first
