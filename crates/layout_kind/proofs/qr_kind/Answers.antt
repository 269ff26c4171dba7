use Rattle.layout_kind.proofs.Arms.{no_kind_at}
use Rattle.layout.proofs.Arms.{entry}
use Rattle.layout.specs.Fields.{qr}
use Rattle.layout.specs.Layouts.{fields_of, kinds_of, kind_at}
use Rattle.layout.specs.declared.Layout.TheVariants.{Reserve}
use mathlib.Core.Path.{◌∙◌}
use Rattle.layout_kind.proofs.qr_kind.Goals as goal

pub returns-in-1 : goal.returns-in-1
unfolding fields_of kind_at kinds_of qr
returns-in-1 c = c.must.ensures ∙ entry (kind_at Reserve) c.in-1.is

pub returns-in-2 : goal.returns-in-2
unfolding fields_of kind_at kinds_of qr
returns-in-2 c = c.must-in-2.ensures ∙ entry (kind_at Reserve) c.in-2.is

pub returns-in-3 : goal.returns-in-3
unfolding fields_of kind_at kinds_of qr
returns-in-3 c = c.must-in-3.ensures ∙ entry (kind_at Reserve) c.in-3.is

pub returns-in-4 : goal.returns-in-4
unfolding fields_of kind_at kinds_of qr
returns-in-4 c = c.must-in-4.ensures ∙ entry (kind_at Reserve) c.in-4.is

pub returns-in-5 : goal.returns-in-5
unfolding fields_of kind_at kinds_of qr
returns-in-5 c = c.must-in-5.ensures ∙ entry (kind_at Reserve) c.in-5.is

pub returns-in-6 : goal.returns-in-6
unfolding fields_of kind_at kinds_of qr
returns-in-6 c = c.may.ensures ∙ entry (kind_at Reserve) c.in-6.is

pub returns-in-7 : goal.returns-in-7
unfolding fields_of kind_at kinds_of qr
returns-in-7 c = c.may-in-7.ensures ∙ entry (kind_at Reserve) c.in-7.is

pub returns-in-8 : goal.returns-in-8
unfolding fields_of kind_at kinds_of qr
returns-in-8 c = c.may-in-8.ensures ∙ entry (kind_at Reserve) c.in-8.is

pub returns-in-9 : goal.returns-in-9
unfolding fields_of kind_at kinds_of qr
returns-in-9 c = c.must-in-9.ensures ∙ entry (kind_at Reserve) c.in-9.is

pub returns-in_default : goal.returns-in_default
unfolding fields_of kinds_of qr
returns-in_default c = c.may-in_default.ensures ∙ no_kind_at Reserve c.args.k c.in_default.in_default-own.rest
