use Rattle.layout_label.proofs.Arms.{arm, last_arm}
use Rattle.layout_label.specs.Labels.{label_of, padded}
use Rattle.layout.specs.Fields.{mfrr}
use Rattle.layout.specs.Layouts.{fields_of, labels_of, label_at}
use Rattle.layout.specs.declared.Layout.TheVariants.{Mfrr}
use native.Mathlib.Omega.{arith}
use Rattle.layout_label.proofs.power_label.Goals as goal

pub returns-in-7 : goal.returns-in-7
unfolding fields_of label_at label_of labels_of mfrr padded
returns-in-7 c = arm (label_at Mfrr) c.in-7.is c.labelled.ensures

pub returns-in-8 : goal.returns-in-8
unfolding fields_of label_at label_of labels_of mfrr padded
returns-in-8 c = arm (label_at Mfrr) c.in-8.is c.labelled-in-8.ensures

pub returns-in-9 : goal.returns-in-9
unfolding fields_of label_at label_of labels_of mfrr padded
returns-in-9 c = arm (label_at Mfrr) c.in-9.is c.labelled-in-9.ensures

pub returns-in-10 : goal.returns-in-10
unfolding fields_of label_at label_of labels_of mfrr padded
returns-in-10 c = arm (label_at Mfrr) c.in-10.is c.labelled-in-10.ensures

pub returns-in-11 : goal.returns-in-11
unfolding fields_of label_at label_of labels_of mfrr padded
returns-in-11 c = arm (label_at Mfrr) c.in-11.is c.labelled-in-11.ensures

pub returns-in_default : goal.returns-in_default
unfolding fields_of label_at label_of labels_of mfrr padded
returns-in_default c =
    last_arm (label_at Mfrr) 7 5 c.args.k c.in_default.in_default-own.rest (omega arith) (omega arith) c.labelled-in_default.ensures
