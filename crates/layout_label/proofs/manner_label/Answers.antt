use Rattle.layout_label.proofs.Arms.{arm, last_arm}
use Rattle.layout_label.specs.Labels.{label_of, padded}
use Rattle.layout.specs.Fields.{market, command, technical}
use Rattle.layout.specs.Layouts.{fields_of, labels_of, label_at}
use Rattle.layout.specs.declared.Layout.TheVariants.{Market}
use native.Mathlib.Omega.{arith}
use Rattle.layout_label.proofs.manner_label.Goals as goal

pub returns-in-7 : goal.returns-in-7
unfolding command fields_of label_at label_of labels_of market padded technical
returns-in-7 c = arm (label_at Market) c.in-7.is c.labelled.ensures

pub returns-in-8 : goal.returns-in-8
unfolding command fields_of label_at label_of labels_of market padded technical
returns-in-8 c = arm (label_at Market) c.in-8.is c.labelled-in-8.ensures

pub returns-in-9 : goal.returns-in-9
unfolding command fields_of label_at label_of labels_of market padded technical
returns-in-9 c = arm (label_at Market) c.in-9.is c.labelled-in-9.ensures

pub returns-in-10 : goal.returns-in-10
unfolding command fields_of label_at label_of labels_of market padded technical
returns-in-10 c = arm (label_at Market) c.in-10.is c.labelled-in-10.ensures

pub returns-in-11 : goal.returns-in-11
unfolding command fields_of label_at label_of labels_of market padded technical
returns-in-11 c = arm (label_at Market) c.in-11.is c.labelled-in-11.ensures

pub returns-in_default : goal.returns-in_default
unfolding command fields_of label_at label_of labels_of market padded technical
returns-in_default c =
    last_arm (label_at Market) 7 5 c.args.k c.in_default.in_default-own.rest (omega arith) (omega arith) c.labelled-in_default.ensures
