use Rattle.gateway.proofs.Normal.{small, told_as}
use Rattle.gateway.proofs.halimpung_normalise.Goals as goal
use mathlib.Core.Path.{◌∙◌}

pub code_of-requires : goal.code_of-requires
code_of-requires c = small _ _ _ _ _ _ c.normalise.result c.normalise.ensures

pub returns : goal.returns
returns c = let t = told_as _ _ _ _ _ _ c.normalise.result c.normalise.ensures in (c.code_of.ensures ∙ t.0, t.1)
