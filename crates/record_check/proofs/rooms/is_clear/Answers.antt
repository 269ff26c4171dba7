use Rattle.text.specs.Bytes.{all, is}
use mathlib.Core.Path.{ap, ◌∙◌}
use Rattle.record_check.proofs.rooms.is_clear.Goals as goal

pub returns : goal.returns
returns c = c.are_zero.ensures ∙ ap (all (is 0)) c.rest.ensures
