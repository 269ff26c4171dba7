use Rattle.layout_label.specs.Labels.{label_of, padded}
use Rattle.layout_label.proofs.reason.Goals as goal

pub returns : goal.returns
unfolding label_of padded
returns c = c.labelled.ensures
