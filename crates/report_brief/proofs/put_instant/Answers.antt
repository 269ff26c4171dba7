use Rattle.report_brief.proofs.Puts.{instant_put, blank_put}
use mathlib.Core.Path.{sym, ◌∙◌}
use Rattle.report_brief.proofs.put_instant.Goals as goal

pub returns-then-is_filled : goal.returns-then-is_filled
returns-then-is_filled c =
    let a = c.args in
    let n = c.instant_in in
    let filled = sym c.is_filled.ensures ∙ c.if-is_filled.true in
    instant_put a.v n.result a.out.now a.at _ _ filled n.ensures c.put_whole.ensures

pub returns : goal.returns
returns c =
    let a = c.args in
    blank_put a.v a.out.now a.at (sym c.is_filled.ensures ∙ c.if-is_filled.false)
