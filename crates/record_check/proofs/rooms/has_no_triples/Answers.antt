use Rattle.record_check.proofs.Unused.{with_triples, without_triples}
use mathlib.Core.Path.{◌∙◌}
use Rattle.record_check.proofs.rooms.has_no_triples.Goals as goal

pub returns-then-gradients_field-ne0 : goal.returns-then-gradients_field-ne0
returns-then-gradients_field-ne0 c = with_triples _ _ _ c.gradients_field.ensures c.if-gradients_field-ne0.true

pub returns : goal.returns
returns c = c.are_none.ensures ∙ without_triples _ _ _ c.gradients_field.ensures c.if-gradients_field-ne0.false
