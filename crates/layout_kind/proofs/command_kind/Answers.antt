use Rattle.layout.proofs.Arms.{entry}
use Rattle.layout.specs.Fields.{Field, command}
use Rattle.layout.specs.Layouts.{no_kind}
use Rattle.text.proofs.Tables.{no_arm}
use lib.ListN.{get_or}
use mathlib.Core.List.{map}
use mathlib.Core.Path.{◌∙◌}
use Rattle.layout_kind.proofs.command_kind.Goals as goal

pub returns-in-0 : goal.returns-in-0
unfolding command
returns-in-0 c = c.must.ensures ∙ entry (λ k. get_or (map (λ (f : Field). f.kind) command) k no_kind) c.in-0.is

pub returns-in-1 : goal.returns-in-1
unfolding command
returns-in-1 c = c.must-in-1.ensures ∙ entry (λ k. get_or (map (λ (f : Field). f.kind) command) k no_kind) c.in-1.is

pub returns-in-2 : goal.returns-in-2
unfolding command
returns-in-2 c = c.must-in-2.ensures ∙ entry (λ k. get_or (map (λ (f : Field). f.kind) command) k no_kind) c.in-2.is

pub returns-in-3 : goal.returns-in-3
unfolding command
returns-in-3 c = c.must-in-3.ensures ∙ entry (λ k. get_or (map (λ (f : Field). f.kind) command) k no_kind) c.in-3.is

pub returns-in-4 : goal.returns-in-4
unfolding command
returns-in-4 c = c.must-in-4.ensures ∙ entry (λ k. get_or (map (λ (f : Field). f.kind) command) k no_kind) c.in-4.is

pub returns-in-5 : goal.returns-in-5
unfolding command
returns-in-5 c = c.must-in-5.ensures ∙ entry (λ k. get_or (map (λ (f : Field). f.kind) command) k no_kind) c.in-5.is

pub returns-in-6 : goal.returns-in-6
unfolding command
returns-in-6 c = c.must-in-6.ensures ∙ entry (λ k. get_or (map (λ (f : Field). f.kind) command) k no_kind) c.in-6.is

pub returns-in-7 : goal.returns-in-7
unfolding command
returns-in-7 c = c.must-in-7.ensures ∙ entry (λ k. get_or (map (λ (f : Field). f.kind) command) k no_kind) c.in-7.is

pub returns-in-8 : goal.returns-in-8
unfolding command
returns-in-8 c = c.must-in-8.ensures ∙ entry (λ k. get_or (map (λ (f : Field). f.kind) command) k no_kind) c.in-8.is

pub returns-in-9 : goal.returns-in-9
unfolding command
returns-in-9 c = c.must-in-9.ensures ∙ entry (λ k. get_or (map (λ (f : Field). f.kind) command) k no_kind) c.in-9.is

pub returns-in-10 : goal.returns-in-10
unfolding command
returns-in-10 c = c.must-in-10.ensures ∙ entry (λ k. get_or (map (λ (f : Field). f.kind) command) k no_kind) c.in-10.is

pub returns-in-11 : goal.returns-in-11
unfolding command
returns-in-11 c = c.must-in-11.ensures ∙ entry (λ k. get_or (map (λ (f : Field). f.kind) command) k no_kind) c.in-11.is

pub returns-in_default : goal.returns-in_default
unfolding command
returns-in_default c = c.may.ensures ∙ no_arm no_kind (map (λ (f : Field). f.kind) command) c.args.k c.in_default.in_default-own.rest
