use Rattle.layout_label.proofs.Arms.{alike, arm, found, no_arm_at}
use Rattle.layout_label.specs.Labels.{label_of, padded}
use Rattle.layout.specs.Fields.{qr, ri}
use Rattle.layout.specs.Layouts.{fields_of, labels_of, label_at}
use Rattle.layout.specs.declared.Layout.TheVariants.{Reserve, Rejection}
use lib.ListN.{take, drop}
use mathlib.Core.List.{[], ◌∷◌}
use mathlib.Core.Path.{refl}
use native.Mathlib.Omega.{arith}
use Rattle.layout_label.proofs.qr_label.Goals as goal
use Rattle.layout_label.proofs.qr_label.Goals.{in_default-via-else-k-lt1+else-k-lt5, in_default-via-then-k-lt1}

pub returns-in-5 : goal.returns-in-5
unfolding fields_of label_at label_of labels_of padded qr
returns-in-5 c = arm (label_at Reserve) c.in-5.is c.labelled.ensures

pub returns-in-6 : goal.returns-in-6
unfolding fields_of label_at label_of labels_of padded qr
returns-in-6 c = arm (label_at Reserve) c.in-6.is c.labelled-in-6.ensures

pub returns-in-7 : goal.returns-in-7
unfolding fields_of label_at label_of labels_of padded qr
returns-in-7 c = arm (label_at Reserve) c.in-7.is c.labelled-in-7.ensures

pub returns-in-8 : goal.returns-in-8
unfolding fields_of label_at labels_of qr
returns-in-8 c = arm (label_at Reserve) c.in-8.is c.note.ensures

pub returns-in-9 : goal.returns-in-9
unfolding fields_of label_at labels_of qr
returns-in-9 c = arm (label_at Reserve) c.in-9.is c.created.ensures

pub returns-in-1-to-4 : goal.returns-in-1-to-4
unfolding fields_of label_at labels_of qr ri
returns-in-1-to-4 c =
    found (alike (take 5 ([] ∷ labels_of Rejection)) (drop 5 ([] ∷ labels_of Rejection)) (drop 5 ([] ∷ labels_of Reserve)) c.args.k (omega arith))
    c.ri_label.ensures

pub returns-in_default : goal.returns-in_default
unfolding fields_of labels_of qr
returns-in_default c =
    no_arm_at Reserve 5 5 c.args.k c.in_default-1.rest refl (λ h. elim c.in_default.branch [ in_default-via-then-k-lt1 w ↦ omega arith | in_default-via-else-k-lt1+else-k-lt5 w ↦ omega arith ])
    c.no_label.ensures
