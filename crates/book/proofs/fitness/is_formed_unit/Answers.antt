use Rattle.book.proofs.Fitting.{unit_long, unit_is}
use Rattle.value_name.specs.Names.{is_unit}
use Rattle.text.specs.Bytes.{all, is}
use mathlib.Core.Path.{ap, ◌∙◌}
use Rattle.book.proofs.fitness.is_formed_unit.Goals as goal

-- A size past the room is none; the rest test by test as the definition says.
pub returns-then-size-gt16 : goal.returns-then-size-gt16
returns-then-size-gt16 c = let a = c.args in unit_long a.size a.unit.now c.if-size-gt16.true

pub returns : goal.returns
returns c =
    let a = c.args in
    unit_is a.size a.unit.now c.if-size-gt16.false _ _ (c.is_unit.ensures ∙ ap is_unit c.front.ensures)
    (c.are_zero.ensures ∙ ap (all (is 0)) c.rest.ensures)
