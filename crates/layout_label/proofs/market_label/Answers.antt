use Rattle.layout_label.proofs.Arms.{arm, no_arm_at}
use Rattle.layout_label.specs.Labels.{label_of, padded}
use Rattle.layout.specs.Fields.{market, command, technical}
use Rattle.layout.specs.Layouts.{fields_of, labels_of, label_at}
use Rattle.layout.specs.declared.Layout.TheVariants.{Market}
use native.Mathlib.Omega.{arith}
use mathlib.Core.Path.{refl}
use Rattle.layout_label.proofs.market_label.Goals as goal
use Rattle.layout_label.proofs.market_label.Goals.{in_default-via-else-k-lt1+else-k-lt7+else-k-lt13+else-k-lt20+else-k-lt26, in_default-via-then-k-lt1}

pub returns-in-26 : goal.returns-in-26
unfolding command fields_of label_at label_of labels_of market padded technical
returns-in-26 c = arm (label_at Market) c.in-26.is c.labelled.ensures

pub returns-in_default : goal.returns-in_default
unfolding command fields_of labels_of market technical
returns-in_default c =
    no_arm_at Market 26 1 c.args.k c.in_default-1.rest refl (λ h. elim c.in_default.branch [ in_default-via-then-k-lt1 w ↦ omega arith | in_default-via-else-k-lt1+else-k-lt7+else-k-lt13+else-k-lt20+else-k-lt26 w ↦ omega arith ])
    c.no_label.ensures
