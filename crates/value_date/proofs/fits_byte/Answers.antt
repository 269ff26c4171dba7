use Rattle.value_date.proofs.Laws.{fits_digit, fits_letter, fits_self}
use mathlib.Core.Path.{◌∙◌}
use Rattle.value_date.proofs.fits_byte.Goals as goal

pub returns-in-48 : goal.returns-in-48
returns-in-48 c = c.is_digit.ensures ∙ fits_digit _ _ c.in-48.is

pub returns-in-76 : goal.returns-in-76
returns-in-76 c = fits_letter _ _ c.in-76.is

pub returns-in_default : goal.returns-in_default
returns-in_default c = fits_self _ _ c.in_default.in_default-own.rest.0.1 c.in_default.in_default-own.rest.1
