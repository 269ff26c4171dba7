use Rattle.reader_fill.proofs.Gradients.{there, elsewhere}
use mathlib.Core.Path.{◌∙◌}
use Rattle.reader_fill.proofs.value_in.Goals as goal

pub returns-then-k-gradients_field : goal.returns-then-k-gradients_field
returns-then-k-gradients_field c = c.counted.ensures ∙ there _ _ _ _ _ c.gradients_field.ensures c.if-k-gradients_field.true

pub returns : goal.returns
returns c = elsewhere _ _ _ _ _ c.gradients_field.ensures c.if-k-gradients_field.false _ c.value_at.ensures
