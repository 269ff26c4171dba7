use Rattle.layout.proofs.Arms.{entry}
use Rattle.layout.specs.Fields.{Field, technical}
use Rattle.layout.specs.Layouts.{no_kind}
use Rattle.text.proofs.Tables.{no_arm}
use lib.ListN.{get_or}
use mathlib.Core.List.{map}
use mathlib.Core.Path.{◌∙◌}
use Rattle.layout_kind.proofs.technical_kind.Goals as goal

pub returns-in-0 : goal.returns-in-0
unfolding technical
returns-in-0 c = c.may.ensures ∙ entry (λ k. get_or (map (λ (f : Field). f.kind) technical) k no_kind) c.in-0.is

pub returns-in-1 : goal.returns-in-1
unfolding technical
returns-in-1 c = c.may-in-1.ensures ∙ entry (λ k. get_or (map (λ (f : Field). f.kind) technical) k no_kind) c.in-1.is

pub returns-in-2 : goal.returns-in-2
unfolding technical
returns-in-2 c = c.must.ensures ∙ entry (λ k. get_or (map (λ (f : Field). f.kind) technical) k no_kind) c.in-2.is

pub returns-in-3 : goal.returns-in-3
unfolding technical
returns-in-3 c = c.must-in-3.ensures ∙ entry (λ k. get_or (map (λ (f : Field). f.kind) technical) k no_kind) c.in-3.is

pub returns-in-4 : goal.returns-in-4
unfolding technical
returns-in-4 c = c.must-in-4.ensures ∙ entry (λ k. get_or (map (λ (f : Field). f.kind) technical) k no_kind) c.in-4.is

pub returns-in-5 : goal.returns-in-5
unfolding technical
returns-in-5 c = c.must-in-5.ensures ∙ entry (λ k. get_or (map (λ (f : Field). f.kind) technical) k no_kind) c.in-5.is

pub returns-in-6 : goal.returns-in-6
unfolding technical
returns-in-6 c = c.may-in-6.ensures ∙ entry (λ k. get_or (map (λ (f : Field). f.kind) technical) k no_kind) c.in-6.is

pub returns-in-7 : goal.returns-in-7
unfolding technical
returns-in-7 c = c.may-in-7.ensures ∙ entry (λ k. get_or (map (λ (f : Field). f.kind) technical) k no_kind) c.in-7.is

pub returns-in-8 : goal.returns-in-8
unfolding technical
returns-in-8 c = c.may-in-8.ensures ∙ entry (λ k. get_or (map (λ (f : Field). f.kind) technical) k no_kind) c.in-8.is

pub returns-in-9 : goal.returns-in-9
unfolding technical
returns-in-9 c = c.may-in-9.ensures ∙ entry (λ k. get_or (map (λ (f : Field). f.kind) technical) k no_kind) c.in-9.is

pub returns-in-10 : goal.returns-in-10
unfolding technical
returns-in-10 c = c.may-in-10.ensures ∙ entry (λ k. get_or (map (λ (f : Field). f.kind) technical) k no_kind) c.in-10.is

pub returns-in-11 : goal.returns-in-11
unfolding technical
returns-in-11 c = c.may-in-11.ensures ∙ entry (λ k. get_or (map (λ (f : Field). f.kind) technical) k no_kind) c.in-11.is

pub returns-in-12 : goal.returns-in-12
unfolding technical
returns-in-12 c = c.may-in-12.ensures ∙ entry (λ k. get_or (map (λ (f : Field). f.kind) technical) k no_kind) c.in-12.is

pub returns-in-13 : goal.returns-in-13
unfolding technical
returns-in-13 c = c.must-in-13.ensures ∙ entry (λ k. get_or (map (λ (f : Field). f.kind) technical) k no_kind) c.in-13.is

pub returns-in_default : goal.returns-in_default
unfolding technical
returns-in_default c = c.may-in_default.ensures ∙ no_arm no_kind (map (λ (f : Field). f.kind) technical) c.args.k c.in_default.in_default-own.rest
