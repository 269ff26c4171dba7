use Rattle.value.specs.Kinds.{got_word}
use mathlib.Core.Path.{ap, ◌∙◌}
use Rattle.value.proofs.read.read_word.Goals as goal

-- What `read` answers, as a value.
pub returns : goal.returns
returns c = c.worded.ensures ∙ ap got_word c.read.ensures
