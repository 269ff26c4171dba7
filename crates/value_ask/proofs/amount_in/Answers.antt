use mir.Syntax.{w32}
use mir.ValLaws.{to_z-of_z}
use Rattle.value_ask.proofs.amount_in.Goals as goal

pub returns-in-Amount : goal.returns-in-Amount
returns-in-Amount c = rw c.in-Amount.is (to_z-of_z w32 _ (record { sfits = c.in-Amount.known_told-1-own.given.0.1 }))
