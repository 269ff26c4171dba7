use Rattle.times.proofs.Told.{refusal_said}
use Rattle.times.specs.Times.{refusal_by, time_refusal}
use mathlib.Core.Path.{ap, ◌∙◌}
use Rattle.times.proofs.refusal_of.Goals as goal

pub returns : goal.returns
returns c = ap refusal_by c.err.ensures.value ∙ refusal_said c.locate.result ∙ ap time_refusal c.locate.ensures
