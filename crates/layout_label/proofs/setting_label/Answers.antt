use Rattle.layout_label.proofs.Arms.{arm, last_arm}
use Rattle.layout_label.specs.Labels.{label_of, padded}
use Rattle.layout.specs.Fields.{vq}
use Rattle.layout.specs.Layouts.{fields_of, labels_of, label_at}
use Rattle.layout.specs.declared.Layout.TheVariants.{VoltVar}
use native.Mathlib.Omega.{arith}
use Rattle.layout_label.proofs.setting_label.Goals as goal

pub returns-in-5 : goal.returns-in-5
unfolding fields_of label_at label_of labels_of padded vq
returns-in-5 c = arm (label_at VoltVar) c.in-5.is c.labelled.ensures

pub returns-in-6 : goal.returns-in-6
unfolding fields_of label_at label_of labels_of padded vq
returns-in-6 c = arm (label_at VoltVar) c.in-6.is c.labelled-in-6.ensures

pub returns-in-7 : goal.returns-in-7
unfolding fields_of label_at label_of labels_of padded vq
returns-in-7 c = arm (label_at VoltVar) c.in-7.is c.labelled-in-7.ensures

pub returns-in-8 : goal.returns-in-8
unfolding fields_of label_at label_of labels_of padded vq
returns-in-8 c = arm (label_at VoltVar) c.in-8.is c.labelled-in-8.ensures

pub returns-in-9 : goal.returns-in-9
unfolding fields_of label_at label_of labels_of padded vq
returns-in-9 c = arm (label_at VoltVar) c.in-9.is c.labelled-in-9.ensures

pub returns-in-10 : goal.returns-in-10
unfolding fields_of label_at label_of labels_of padded vq
returns-in-10 c = arm (label_at VoltVar) c.in-10.is c.labelled-in-10.ensures

pub returns-in_default : goal.returns-in_default
unfolding fields_of label_at label_of labels_of padded vq
returns-in_default c =
    last_arm (label_at VoltVar) 5 6 c.args.k c.in_default.in_default-own.rest (omega arith) (omega arith) c.labelled-in_default.ensures
