use Rattle.text.proofs.Zeros.{zero_bits}
use borrow.Author.Rules.{rules}
use mir.Syntax.{w32}
use mir.ValLaws.{to_z-of_z}
use Rattle.book_order.proofs.fits_layout.Goals as goal

pub returns-in-Market : goal.returns-in-Market
returns-in-Market c = let a = c.args in rw (c.in-Market.is, c.is_amount.ensures, to_z-of_z w32 a.second (search rules))

pub returns-in-Mfrr : goal.returns-in-Mfrr
returns-in-Mfrr c = rw (c.in-Mfrr.is, zero_bits c.args.second (search rules))
