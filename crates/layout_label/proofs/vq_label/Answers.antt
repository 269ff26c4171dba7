use Rattle.layout_label.proofs.Arms.{alike, arm, found, no_arm_at}
use Rattle.layout.specs.Fields.{vq, ri}
use Rattle.layout.specs.Layouts.{fields_of, labels_of, label_at}
use Rattle.layout.specs.declared.Layout.TheVariants.{VoltVar, Rejection}
use lib.ListN.{take, drop}
use mathlib.Core.List.{[], ◌∷◌}
use mathlib.Core.Path.{refl}
use native.Mathlib.Omega.{arith}
use Rattle.layout_label.proofs.vq_label.Goals as goal
use Rattle.layout_label.proofs.vq_label.Goals.{in_default-via-else-k-lt1+else-k-lt5+else-k-lt12, in_default-via-then-k-lt1}

pub returns-in-12 : goal.returns-in-12
unfolding fields_of label_at labels_of vq
returns-in-12 c = arm (label_at VoltVar) c.in-12.is c.note.ensures

pub returns-in-13 : goal.returns-in-13
unfolding fields_of label_at labels_of vq
returns-in-13 c = arm (label_at VoltVar) c.in-13.is c.created.ensures

pub returns-in-1-to-4 : goal.returns-in-1-to-4
unfolding fields_of label_at labels_of ri vq
returns-in-1-to-4 c =
    found (alike (take 5 ([] ∷ labels_of Rejection)) (drop 5 ([] ∷ labels_of Rejection)) (drop 5 ([] ∷ labels_of VoltVar)) c.args.k (omega arith))
    c.ri_label.ensures

pub returns-in_default : goal.returns-in_default
unfolding fields_of labels_of vq
returns-in_default c =
    no_arm_at VoltVar 12 2 c.args.k c.in_default-1.rest refl (λ h. elim c.in_default.branch [ in_default-via-then-k-lt1 w ↦ omega arith | in_default-via-else-k-lt1+else-k-lt5+else-k-lt12 w ↦ omega arith ])
    c.no_label.ensures
