use Rattle.book.proofs.Fitting.{fresh_bad, fresh_good}
use Rattle.book.specs.Answers.{outcome, outcome_by}
use mathlib.Core.Path.{sym, ap, ◌∙◌}
use Rattle.book.proofs.fresh.Goals as goal

pub returns-then-not-is_unit : goal.returns-then-not-is_unit
returns-then-not-is_unit c =
    ap outcome_by c.hand_back.ensures ∙ ap (outcome 21) c.zero.ensures ∙ fresh_bad _ (sym c.is_unit.ensures ∙ c.if-not-is_unit.true)

pub returns : goal.returns
returns c =
    ap outcome_by c.hand_back-2.ensures ∙ ap (outcome 0) c.with.ensures ∙ fresh_good _ (sym c.is_unit.ensures ∙ c.if-not-is_unit.false)
