use Rattle.layout_kind.proofs.Arms.{no_kind_at}
use Rattle.layout.proofs.Arms.{entry}
use Rattle.layout.specs.Fields.{mfrr}
use Rattle.layout.specs.Layouts.{fields_of, kinds_of, kind_at}
use Rattle.layout.specs.declared.Layout.TheVariants.{Mfrr}
use mathlib.Core.Path.{◌∙◌}
use Rattle.layout_kind.proofs.mfrr_kind.Goals as goal

pub returns-in-1 : goal.returns-in-1
unfolding fields_of kind_at kinds_of mfrr
returns-in-1 c = c.must.ensures ∙ entry (kind_at Mfrr) c.in-1.is

pub returns-in-2 : goal.returns-in-2
unfolding fields_of kind_at kinds_of mfrr
returns-in-2 c = c.must-in-2.ensures ∙ entry (kind_at Mfrr) c.in-2.is

pub returns-in-3 : goal.returns-in-3
unfolding fields_of kind_at kinds_of mfrr
returns-in-3 c = c.must-in-3.ensures ∙ entry (kind_at Mfrr) c.in-3.is

pub returns-in-4 : goal.returns-in-4
unfolding fields_of kind_at kinds_of mfrr
returns-in-4 c = c.must-in-4.ensures ∙ entry (kind_at Mfrr) c.in-4.is

pub returns-in-5 : goal.returns-in-5
unfolding fields_of kind_at kinds_of mfrr
returns-in-5 c = c.must-in-5.ensures ∙ entry (kind_at Mfrr) c.in-5.is

pub returns-in-6 : goal.returns-in-6
unfolding fields_of kind_at kinds_of mfrr
returns-in-6 c = c.must-in-6.ensures ∙ entry (kind_at Mfrr) c.in-6.is

pub returns-in-7 : goal.returns-in-7
unfolding fields_of kind_at kinds_of mfrr
returns-in-7 c = c.must-in-7.ensures ∙ entry (kind_at Mfrr) c.in-7.is

pub returns-in-8 : goal.returns-in-8
unfolding fields_of kind_at kinds_of mfrr
returns-in-8 c = c.must-in-8.ensures ∙ entry (kind_at Mfrr) c.in-8.is

pub returns-in-9 : goal.returns-in-9
unfolding fields_of kind_at kinds_of mfrr
returns-in-9 c = c.must-in-9.ensures ∙ entry (kind_at Mfrr) c.in-9.is

pub returns-in-10 : goal.returns-in-10
unfolding fields_of kind_at kinds_of mfrr
returns-in-10 c = c.must-in-10.ensures ∙ entry (kind_at Mfrr) c.in-10.is

pub returns-in-11 : goal.returns-in-11
unfolding fields_of kind_at kinds_of mfrr
returns-in-11 c = c.must-in-11.ensures ∙ entry (kind_at Mfrr) c.in-11.is

pub returns-in-12 : goal.returns-in-12
unfolding fields_of kind_at kinds_of mfrr
returns-in-12 c = c.must-in-12.ensures ∙ entry (kind_at Mfrr) c.in-12.is

pub returns-in_default : goal.returns-in_default
unfolding fields_of kinds_of mfrr
returns-in_default c = c.may.ensures ∙ no_kind_at Mfrr c.args.k c.in_default.in_default-own.rest
