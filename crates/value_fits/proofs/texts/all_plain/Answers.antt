use Rattle.std.proofs.Common.{rules, tests, ◌∙◌}
use Rattle.std.proofs.lemmas.Iterator.{YieldsList-from_slice}
use Rattle.std.proofs.lemmas.Iterator.Search.{all_from_yields_List}
use Rattle.text.specs.Bytes.{is_plain}
use Rattle.text.proofs.Chains.{all_is}
use Rattle.value_fits.proofs.texts.all_plain.Goals as goal

pub returns : goal.returns
returns c =
    let s = c.args.s.now in
    all_from_yields_List is_plain c.all.new.self _ _ c.all.ensures.ran (YieldsList-from_slice {s = c.iter.result} s (cc)) (λ x b q k. search (rules, tests))
    ∙ all_is is_plain s
