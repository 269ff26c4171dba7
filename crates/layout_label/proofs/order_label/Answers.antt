use Rattle.layout_label.proofs.Arms.{arm, last_arm}
use Rattle.layout_label.specs.Labels.{label_of, padded}
use Rattle.layout.specs.Fields.{market, command, technical}
use Rattle.layout.specs.Layouts.{fields_of, labels_of, label_at}
use Rattle.layout.specs.declared.Layout.TheVariants.{Market}
use native.Mathlib.Omega.{arith}
use Rattle.layout_label.proofs.order_label.Goals as goal

pub returns-in-1 : goal.returns-in-1
unfolding command fields_of label_at labels_of market technical
returns-in-1 c = arm (label_at Market) c.in-1.is c.identifier.ensures

pub returns-in-2 : goal.returns-in-2
unfolding command fields_of label_at labels_of market technical
returns-in-2 c = arm (label_at Market) c.in-2.is c.unit.ensures

pub returns-in-3 : goal.returns-in-3
unfolding command fields_of label_at label_of labels_of market padded technical
returns-in-3 c = arm (label_at Market) c.in-3.is c.labelled.ensures

pub returns-in-4 : goal.returns-in-4
unfolding command fields_of label_at label_of labels_of market padded technical
returns-in-4 c = arm (label_at Market) c.in-4.is c.labelled-in-4.ensures

pub returns-in-5 : goal.returns-in-5
unfolding command fields_of label_at label_of labels_of market padded technical
returns-in-5 c = arm (label_at Market) c.in-5.is c.labelled-in-5.ensures

pub returns-in_default : goal.returns-in_default
unfolding command fields_of label_at label_of labels_of market padded technical
returns-in_default c =
    last_arm (label_at Market) 1 5 c.args.k c.in_default.in_default-own.rest (omega arith) (omega arith) c.labelled-in_default.ensures
