use Rattle.layout_kind.proofs.Arms.{no_kind_at}
use Rattle.layout.proofs.Arms.{entry}
use Rattle.layout.specs.Fields.{rc}
use Rattle.layout.specs.Layouts.{fields_of, kinds_of, kind_at}
use Rattle.layout.specs.declared.Layout.TheVariants.{Revocation}
use mathlib.Core.Path.{◌∙◌}
use Rattle.layout_kind.proofs.rc_kind.Goals as goal

pub returns-in-1 : goal.returns-in-1
unfolding fields_of kind_at kinds_of rc
returns-in-1 c = c.must.ensures ∙ entry (kind_at Revocation) c.in-1.is

pub returns-in-2 : goal.returns-in-2
unfolding fields_of kind_at kinds_of rc
returns-in-2 c = c.must-in-2.ensures ∙ entry (kind_at Revocation) c.in-2.is

pub returns-in-3 : goal.returns-in-3
unfolding fields_of kind_at kinds_of rc
returns-in-3 c = c.must-in-3.ensures ∙ entry (kind_at Revocation) c.in-3.is

pub returns-in-4 : goal.returns-in-4
unfolding fields_of kind_at kinds_of rc
returns-in-4 c = c.must-in-4.ensures ∙ entry (kind_at Revocation) c.in-4.is

pub returns-in-5 : goal.returns-in-5
unfolding fields_of kind_at kinds_of rc
returns-in-5 c = c.must-in-5.ensures ∙ entry (kind_at Revocation) c.in-5.is

pub returns-in_default : goal.returns-in_default
unfolding fields_of kinds_of rc
returns-in_default c = c.may.ensures ∙ no_kind_at Revocation c.args.k c.in_default.in_default-own.rest
