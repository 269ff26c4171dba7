use Rattle.layout_label.proofs.Arms.{no_arm_at}
use Rattle.layout.specs.Fields.{mfrr}
use Rattle.layout.specs.Layouts.{fields_of, labels_of}
use Rattle.layout.specs.declared.Layout.TheVariants.{Mfrr}
use native.Mathlib.Omega.{arith}
use mathlib.Core.Path.{refl}
use Rattle.layout_label.proofs.mfrr_label.Goals as goal
use Rattle.layout_label.proofs.mfrr_label.Goals.{in_default-via-else-k-lt1+else-k-lt7+else-k-lt13, in_default-via-then-k-lt1}

pub returns-in_default : goal.returns-in_default
unfolding fields_of labels_of mfrr
returns-in_default c =
    no_arm_at Mfrr 13 0 c.args.k tt refl (λ h. elim c.in_default.branch [ in_default-via-then-k-lt1 w ↦ omega arith | in_default-via-else-k-lt1+else-k-lt7+else-k-lt13 w ↦ omega arith ]) c.no_label.ensures
