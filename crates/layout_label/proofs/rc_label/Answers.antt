use Rattle.layout_label.proofs.Arms.{arm, no_arm_at}
use Rattle.layout_label.specs.Labels.{label_of, padded}
use Rattle.layout.specs.Fields.{rc}
use Rattle.layout.specs.Layouts.{fields_of, labels_of, label_at}
use Rattle.layout.specs.declared.Layout.TheVariants.{Revocation}
use mathlib.Core.Path.{refl}
use Rattle.layout_label.proofs.rc_label.Goals as goal

pub returns-in-1 : goal.returns-in-1
unfolding fields_of label_at labels_of rc
returns-in-1 c = arm (label_at Revocation) c.in-1.is c.identifier.ensures

pub returns-in-2 : goal.returns-in-2
unfolding fields_of label_at labels_of rc
returns-in-2 c = arm (label_at Revocation) c.in-2.is c.unit.ensures

pub returns-in-3 : goal.returns-in-3
unfolding fields_of label_at label_of labels_of padded rc
returns-in-3 c = arm (label_at Revocation) c.in-3.is c.labelled.ensures

pub returns-in-4 : goal.returns-in-4
unfolding fields_of label_at label_of labels_of padded rc
returns-in-4 c = arm (label_at Revocation) c.in-4.is c.labelled-in-4.ensures

pub returns-in-5 : goal.returns-in-5
unfolding fields_of label_at label_of labels_of padded rc
returns-in-5 c = arm (label_at Revocation) c.in-5.is c.labelled-in-5.ensures

pub returns-in_default : goal.returns-in_default
unfolding fields_of labels_of rc
returns-in_default c = no_arm_at Revocation 1 5 c.args.k c.in_default.in_default-own.rest refl (λ h. h) c.no_label.ensures
