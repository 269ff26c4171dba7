use Rattle.std.proofs.Common.{rules, tests, ◌∙◌, take}
use Rattle.std.proofs.lemmas.Iterator.{YieldsList-from_slice, YieldsList-from_take}
use Rattle.std.proofs.lemmas.Iterator.Search.{all_from_yields_List}
use Rattle.text.proofs.Chains.{all_is}
use Rattle.record_rules.specs.Rules.{rises}
use Rattle.record_rules.proofs.all_rise.Goals as goal

pub returns : goal.returns
returns c =
    let a = c.args in
    all_from_yields_List rises c.all.new.self _ _ c.all.ensures.ran
    (YieldsList-from_take a.n (YieldsList-from_slice {s = c.take.result.iter} a.gradients (cc)) (cc))
    (λ x b q k. search (rules, tests))
    ∙ all_is rises (take a.n a.gradients)
