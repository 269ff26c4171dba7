use Rattle.layout_label.proofs.Arms.{arm, found, short_of}
use Rattle.layout.specs.Fields.{mg, ri}
use Rattle.layout.specs.Layouts.{fields_of, labels_of, label_at}
use Rattle.layout.specs.declared.Layout.TheVariants.{Generic, Rejection}
use Rattle.text.proofs.Tables.{above}
use lib.ListN.{drop}
use mathlib.Core.List.{[], ◌∷◌}
use Rattle.layout_label.proofs.mg_label.Goals as goal

pub returns-in-7 : goal.returns-in-7
unfolding fields_of label_at labels_of mg
returns-in-7 c = arm (label_at Generic) c.in-7.is c.created.ensures

pub returns-in_default : goal.returns-in_default
unfolding fields_of label_at labels_of mg ri
returns-in_default c =
    found (short_of ([] ∷ labels_of Rejection) (drop 7 ([] ∷ labels_of Generic)) c.args.k (above 7 1 c.args.k c.in_default.in_default-own.rest))
    c.ri_label.ensures
