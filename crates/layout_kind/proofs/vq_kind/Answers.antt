use Rattle.layout_kind.proofs.Arms.{no_kind_at}
use Rattle.layout.proofs.Arms.{entry}
use Rattle.layout.specs.Fields.{vq}
use Rattle.layout.specs.Layouts.{fields_of, kinds_of, kind_at}
use Rattle.layout.specs.declared.Layout.TheVariants.{VoltVar}
use mathlib.Core.Path.{◌∙◌}
use Rattle.layout_kind.proofs.vq_kind.Goals as goal

pub returns-in-1 : goal.returns-in-1
unfolding fields_of kind_at kinds_of vq
returns-in-1 c = c.must.ensures ∙ entry (kind_at VoltVar) c.in-1.is

pub returns-in-2 : goal.returns-in-2
unfolding fields_of kind_at kinds_of vq
returns-in-2 c = c.must-in-2.ensures ∙ entry (kind_at VoltVar) c.in-2.is

pub returns-in-3 : goal.returns-in-3
unfolding fields_of kind_at kinds_of vq
returns-in-3 c = c.must-in-3.ensures ∙ entry (kind_at VoltVar) c.in-3.is

pub returns-in-4 : goal.returns-in-4
unfolding fields_of kind_at kinds_of vq
returns-in-4 c = c.may.ensures ∙ entry (kind_at VoltVar) c.in-4.is

pub returns-in-5 : goal.returns-in-5
unfolding fields_of kind_at kinds_of vq
returns-in-5 c = c.may-in-5.ensures ∙ entry (kind_at VoltVar) c.in-5.is

pub returns-in-6 : goal.returns-in-6
unfolding fields_of kind_at kinds_of vq
returns-in-6 c = c.must-in-6.ensures ∙ entry (kind_at VoltVar) c.in-6.is

pub returns-in-7 : goal.returns-in-7
unfolding fields_of kind_at kinds_of vq
returns-in-7 c = c.may-in-7.ensures ∙ entry (kind_at VoltVar) c.in-7.is

pub returns-in-8 : goal.returns-in-8
unfolding fields_of kind_at kinds_of vq
returns-in-8 c = c.may-in-8.ensures ∙ entry (kind_at VoltVar) c.in-8.is

pub returns-in-9 : goal.returns-in-9
unfolding fields_of kind_at kinds_of vq
returns-in-9 c = c.may-in-9.ensures ∙ entry (kind_at VoltVar) c.in-9.is

pub returns-in-10 : goal.returns-in-10
unfolding fields_of kind_at kinds_of vq
returns-in-10 c = c.may-in-10.ensures ∙ entry (kind_at VoltVar) c.in-10.is

pub returns-in-11 : goal.returns-in-11
unfolding fields_of kind_at kinds_of vq
returns-in-11 c = c.may-in-11.ensures ∙ entry (kind_at VoltVar) c.in-11.is

pub returns-in-12 : goal.returns-in-12
unfolding fields_of kind_at kinds_of vq
returns-in-12 c = c.may-in-12.ensures ∙ entry (kind_at VoltVar) c.in-12.is

pub returns-in-13 : goal.returns-in-13
unfolding fields_of kind_at kinds_of vq
returns-in-13 c = c.must-in-13.ensures ∙ entry (kind_at VoltVar) c.in-13.is

pub returns-in_default : goal.returns-in_default
unfolding fields_of kinds_of vq
returns-in_default c = c.may-in_default.ensures ∙ no_kind_at VoltVar c.args.k c.in_default.in_default-own.rest
