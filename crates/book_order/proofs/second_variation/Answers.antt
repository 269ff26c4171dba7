use mathlib.Core.Path.{◌∙◌}
use mir.Syntax.{w32}
use mir.ValLaws.{to_z-of_z}
use Rattle.book_order.proofs.second_variation.Goals as goal

pub returns-in-Market : goal.returns-in-Market
returns-in-Market c =
    rw c.in-Market.is
    (to_z-of_z w32 c.amount_in.result (record { sfits = c.amount_in.type_inv }) ∙ c.amount_in.ensures ∙ rw c.field.ensures)
