use Rattle.value_fits.specs.Fits.{is_ranged}
use borrow.Author.Rules.{rules}
use mir.Syntax.{w32}
use mir.ValLaws.{to_z-of_z}
use Rattle.value_fits.proofs.triples.is_ranged.Goals as goal

pub returns : goal.returns
unfolding is_ranged
returns c =
    let x = c.args.x in
    rw (
      c.is_amount.ensures,
      c.is_amount-2.ensures,
      c.is_amount-3.ensures,
      to_z-of_z w32 x.low (search rules),
      to_z-of_z w32 x.high (search rules),
      to_z-of_z w32 x.gradient (search rules),
    )
