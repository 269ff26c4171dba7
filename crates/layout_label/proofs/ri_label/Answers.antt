use Rattle.layout_label.proofs.Arms.{arm, no_arm_at}
use Rattle.layout.specs.Fields.{ri}
use Rattle.layout.specs.Layouts.{fields_of, labels_of, label_at}
use Rattle.layout.specs.declared.Layout.TheVariants.{Rejection}
use mathlib.Core.Path.{refl}
use Rattle.layout_label.proofs.ri_label.Goals as goal

pub returns-in-1 : goal.returns-in-1
unfolding fields_of label_at labels_of ri
returns-in-1 c = arm (label_at Rejection) c.in-1.is c.identifier.ensures

pub returns-in-2 : goal.returns-in-2
unfolding fields_of label_at labels_of ri
returns-in-2 c = arm (label_at Rejection) c.in-2.is c.unit.ensures

pub returns-in-3 : goal.returns-in-3
unfolding fields_of label_at labels_of ri
returns-in-3 c = arm (label_at Rejection) c.in-3.is c.start.ensures

pub returns-in-4 : goal.returns-in-4
unfolding fields_of label_at labels_of ri
returns-in-4 c = arm (label_at Rejection) c.in-4.is c.end.ensures

pub returns-in-5 : goal.returns-in-5
unfolding fields_of label_at labels_of ri
returns-in-5 c = arm (label_at Rejection) c.in-5.is c.reason.ensures

pub returns-in-6 : goal.returns-in-6
unfolding fields_of label_at labels_of ri
returns-in-6 c = arm (label_at Rejection) c.in-6.is c.note.ensures

pub returns-in_default : goal.returns-in_default
unfolding fields_of labels_of ri
returns-in_default c = no_arm_at Rejection 1 6 c.args.k c.in_default.in_default-own.rest refl (λ h. h) c.no_label.ensures
