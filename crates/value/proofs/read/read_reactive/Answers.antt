use Rattle.value.proofs.Settings.{is_number, is_word}
use Rattle.value.specs.Kinds.{reactive}
use mathlib.Core.Path.{◌∙◌}
use mir.Syntax.{w32}
use mir.ValLaws.{to_z-of_z}
use Rattle.value.proofs.read.read_reactive.Goals as goal

pub returns-in-Some : goal.returns-in-Some
returns-in-Some c =
    rw (to_z-of_z w32 c.in-Some.n (record { sfits = c.in-Some.known_told-1-own.given.0.1 }))
    (is_number reactive _ _ _ c.in-Some.is c.read.ensures)

pub returns-in-None : goal.returns-in-None
returns-in-None c = c.read_word.ensures ∙ is_word reactive _ _ _ c.in-None.is c.read.ensures
