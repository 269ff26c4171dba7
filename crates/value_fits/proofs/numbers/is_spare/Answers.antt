use Rattle.value_fits.specs.Fits.{is_spare}
use Rattle.text.proofs.Zeros.{zero_bits}
use borrow.Author.Rules.{rules}
use mir.Syntax.{w32}
use mir.ValLaws.{to_z-of_z}
use Rattle.value_fits.proofs.numbers.is_spare.Goals as goal

pub returns : goal.returns
unfolding is_spare
returns c = let v = c.args.v in rw (c.is_amount.ensures, to_z-of_z w32 v (search rules), zero_bits v (search rules))
