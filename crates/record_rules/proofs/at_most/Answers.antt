use mir.Syntax.{w32}
use mir.ValLaws.{to_z-of_z}
use Rattle.record_rules.proofs.at_most.Goals as goal

pub returns : goal.returns
returns c =
    let low = c.amount_in in
    let high = c.amount_in-2 in
    rw (to_z-of_z w32 low.result (record { sfits = low.type_inv }), to_z-of_z w32 high.result (record { sfits = high.type_inv }), low.ensures, high.ensures)
