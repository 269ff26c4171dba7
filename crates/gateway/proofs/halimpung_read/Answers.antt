use mathlib.Core.Path.{◌∙◌}
use Rattle.gateway.proofs.halimpung_read.Goals as goal

pub code_of-requires : goal.code_of-requires
code_of-requires c = c.write_lines.ensures.small

pub returns : goal.returns
returns c = (c.code_of.ensures ∙ c.write_lines.ensures.told.0, c.write_lines.ensures.told.1)
