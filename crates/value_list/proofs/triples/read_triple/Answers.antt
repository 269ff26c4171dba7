use Rattle.std.specs.Prelude.{Some}
use Rattle.value_list.proofs.Lines.{triple_from, one_from}
use borrow.Author.Rules.{rules}
use mathlib.Core.Path.{sym, ap, ◌∙◌}
use mir.Syntax.{w32}
use mir.ValLaws.{to_z-of_z}
use Rattle.value_list.proofs.triples.read_triple.Goals as goal

pub returns : goal.returns
returns c =
    let x = c.in_ok-x.x in
    let low = to_z-of_z w32 x.first (search rules) in
    let high = to_z-of_z w32 x.second (search rules) in
    let gradient = to_z-of_z w32 x.third (search rules) in
    (λ i. Some (record { low = low i; high = high i; gradient = gradient i }))
    ∙ ap triple_from (sym c.in_ok-x.was ∙ c.read.ensures) ∙ one_from _

pub returns-in_err-x : goal.returns-in_err-x
returns-in_err-x c =
    c.from_residual.ensures ∙ ap triple_from (sym c.in_err-x.was ∙ c.read.ensures) ∙ one_from _
