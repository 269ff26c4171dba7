use Rattle.layout_label.proofs.Arms.{arm, found, short_of}
use Rattle.layout_label.specs.Labels.{label_of, padded}
use Rattle.layout.specs.Fields.{eb, ri}
use Rattle.layout.specs.Layouts.{fields_of, labels_of, label_at}
use Rattle.layout.specs.declared.Layout.TheVariants.{Exclusion, Rejection}
use Rattle.text.proofs.Tables.{above}
use lib.ListN.{drop}
use mathlib.Core.List.{[], ◌∷◌}
use Rattle.layout_label.proofs.eb_label.Goals as goal

pub returns-in-7 : goal.returns-in-7
unfolding eb fields_of label_at label_of labels_of padded
returns-in-7 c = arm (label_at Exclusion) c.in-7.is c.labelled.ensures

pub returns-in-8 : goal.returns-in-8
unfolding eb fields_of label_at labels_of
returns-in-8 c = arm (label_at Exclusion) c.in-8.is c.created.ensures

pub returns-in_default : goal.returns-in_default
unfolding eb fields_of label_at labels_of ri
returns-in_default c =
    found (short_of ([] ∷ labels_of Rejection) (drop 7 ([] ∷ labels_of Exclusion)) c.args.k (above 7 2 c.args.k c.in_default.in_default-own.rest))
    c.ri_label.ensures
