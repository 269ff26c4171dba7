use Rattle.std.proofs.Common.{rules, tests, ◌≡◌, ap, ◌∙◌, ◌+◌, ℕ, drop, length}
use Rattle.std.proofs.lemmas.Iterator.{YieldsList-from_slice}
use Rattle.std.proofs.lemmas.Iterator.Consumers.{count_from_yields_List}
use Rattle.std.proofs.lemmas.Iterator.Search.{YieldsList-from_take_while}
use Rattle.std.specs.List.{take_while}
use Rattle.text.proofs.Cuts.{tail}
use Rattle.text.proofs.Fronts.{run_taken}
use Rattle.text.specs.Bytes.{is_blank}
use Rattle.value_number.proofs.past_blanks.Goals as goal

pub returns : goal.returns
returns c =
    let a = c.args in
    let t = drop a.at a.s.now in
    let taken : c.count.result ≡ length (take_while is_blank t) =
    count_from_yields_List c.take_while.result _ c.count.ensures.ran
    (YieldsList-from_take_while _ is_blank (YieldsList-from_slice {s = c.take_while.result.iter} t (cc (tail a.s.now a.at))) (cc) (cc) (λ x b q k. search (rules, tests))) in
    ap (λ (n : ℕ). a.at + n) (taken ∙ run_taken is_blank t)
