use Rattle.std.proofs.Common.{rules, tests, ◌∙◌, drop}
use Rattle.std.proofs.lemmas.Iterator.{YieldsList-from_slice}
use Rattle.std.proofs.lemmas.Iterator.Adapters.{YieldsList-from_skip}
use Rattle.std.proofs.lemmas.Iterator.Search.{all_from_yields_List}
use Rattle.record_check.specs.Validity.{is_blank_cell}
use Rattle.text.proofs.Chains.{all_is}
use Rattle.record_check.proofs.are_blank.Goals as goal

pub returns : goal.returns
returns c =
    let a = c.args in
    all_from_yields_List is_blank_cell c.all.new.self _ _ c.all.ensures.ran
    (YieldsList-from_skip a.n (YieldsList-from_slice {s = c.skip.result.iter} a.cells (cc)) (cc))
    (λ x b q k. search (rules, tests))
    ∙ all_is is_blank_cell (drop a.n a.cells)
