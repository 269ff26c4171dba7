use mathlib.Core.Path.{sym, ◌∙◌}
use Rattle.record_rules.proofs.limited.Goals as goal

pub returns-then-says : goal.returns-then-says
returns-then-says c =
    rw (sym c.says.ensures ∙ c.if-says.true, c.filled-high.ensures, c.filled-low.ensures, c.filled-reason.ensures)

pub returns : goal.returns
returns c =
    rw (
      sym c.says.ensures ∙ c.if-says.false,
      c.filled-high.ensures,
      c.filled-low.ensures,
      c.filled-reason.ensures,
      c.at_most.ensures,
    )
