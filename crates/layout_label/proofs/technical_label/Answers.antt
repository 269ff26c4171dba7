use Rattle.layout_label.proofs.Arms.{arm, last_arm}
use Rattle.layout_label.specs.Labels.{label_of, padded}
use Rattle.layout.specs.Fields.{market, command, technical}
use Rattle.layout.specs.Layouts.{fields_of, labels_of, label_at}
use Rattle.layout.specs.declared.Layout.TheVariants.{Market}
use native.Mathlib.Omega.{arith}
use Rattle.layout_label.proofs.technical_label.Goals as goal

pub returns-in-13 : goal.returns-in-13
unfolding command fields_of label_at label_of labels_of market padded technical
returns-in-13 c = arm (label_at Market) c.in-13.is c.labelled.ensures

pub returns-in-14 : goal.returns-in-14
unfolding command fields_of label_at label_of labels_of market padded technical
returns-in-14 c = arm (label_at Market) c.in-14.is c.labelled-in-14.ensures

pub returns-in-15 : goal.returns-in-15
unfolding command fields_of label_at label_of labels_of market padded technical
returns-in-15 c = arm (label_at Market) c.in-15.is c.labelled-in-15.ensures

pub returns-in-16 : goal.returns-in-16
unfolding command fields_of label_at label_of labels_of market padded technical
returns-in-16 c = arm (label_at Market) c.in-16.is c.labelled-in-16.ensures

pub returns-in-17 : goal.returns-in-17
unfolding command fields_of label_at label_of labels_of market padded technical
returns-in-17 c = arm (label_at Market) c.in-17.is c.labelled-in-17.ensures

pub returns-in-18 : goal.returns-in-18
unfolding command fields_of label_at label_of labels_of market padded technical
returns-in-18 c = arm (label_at Market) c.in-18.is c.labelled-in-18.ensures

pub returns-in_default : goal.returns-in_default
unfolding command fields_of label_at label_of labels_of market padded technical
returns-in_default c =
    last_arm (label_at Market) 13 6 c.args.k c.in_default.in_default-own.rest (omega arith) (omega arith) c.labelled-in_default.ensures
