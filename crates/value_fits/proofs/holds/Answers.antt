use Rattle.value_fits.proofs.Blanks.{holds_blank, holds_filled}
use Rattle.value.specs.Texts.{rooms_in}
use mathlib.Core.Path.{sym, ◌∙◌}
use Rattle.value_fits.proofs.holds.Goals as goal

pub returns-then-not-is_filled : goal.returns-then-not-is_filled
returns-then-not-is_filled c =
    let a = c.args in
    holds_blank a.t (rooms_in a.rooms) a.k a.v
    (sym c.is_filled.ensures ∙ c.if-not-is_filled.true)

pub returns : goal.returns
returns c =
    let a = c.args in
    rw c.fits.ensures (holds_filled a.t (rooms_in a.rooms) a.k a.v (sym c.is_filled.ensures ∙ c.if-not-is_filled.false))
