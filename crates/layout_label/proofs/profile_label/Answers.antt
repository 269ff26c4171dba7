use Rattle.layout_label.proofs.Arms.{arm, last_arm}
use Rattle.layout_label.specs.Labels.{label_of, padded}
use Rattle.layout.specs.Fields.{market, command, technical}
use Rattle.layout.specs.Layouts.{fields_of, labels_of, label_at}
use Rattle.layout.specs.declared.Layout.TheVariants.{Market}
use native.Mathlib.Omega.{arith}
use Rattle.layout_label.proofs.profile_label.Goals as goal

pub returns-in-20 : goal.returns-in-20
unfolding command fields_of label_at label_of labels_of market padded technical
returns-in-20 c = arm (label_at Market) c.in-20.is c.labelled.ensures

pub returns-in-21 : goal.returns-in-21
unfolding command fields_of label_at label_of labels_of market padded technical
returns-in-21 c = arm (label_at Market) c.in-21.is c.labelled-in-21.ensures

pub returns-in-22 : goal.returns-in-22
unfolding command fields_of label_at label_of labels_of market padded technical
returns-in-22 c = arm (label_at Market) c.in-22.is c.labelled-in-22.ensures

pub returns-in-23 : goal.returns-in-23
unfolding command fields_of label_at label_of labels_of market padded technical
returns-in-23 c = arm (label_at Market) c.in-23.is c.labelled-in-23.ensures

pub returns-in-24 : goal.returns-in-24
unfolding command fields_of label_at label_of labels_of market padded technical
returns-in-24 c = arm (label_at Market) c.in-24.is c.labelled-in-24.ensures

pub returns-in_default : goal.returns-in_default
unfolding command fields_of label_at label_of labels_of market padded technical
returns-in_default c =
    last_arm (label_at Market) 20 5 c.args.k c.in_default.in_default-own.rest (omega arith) (omega arith) c.labelled-in_default.ensures
