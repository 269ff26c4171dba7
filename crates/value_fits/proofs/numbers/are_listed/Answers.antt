use Rattle.value_fits.specs.Fits.{are_listed}
use borrow.Author.Rules.{rules}
use mir.Syntax.{w32}
use mir.Val.{SFits}
use mir.ValLaws.{to_z-of_z}
use Rattle.value_fits.proofs.numbers.are_listed.Goals as goal

pub returns : goal.returns
unfolding are_listed
returns c =
    let first_fits : SFits w32 c.args.x.first = search rules in
    let second_fits : SFits w32 c.args.x.second = search rules in
    let third_fits : SFits w32 c.args.x.third = search rules in
    let fourth_fits : SFits w32 c.args.x.fourth = search rules in
    let x = c.args.x in
    rw (
      c.is_spare.ensures,
      c.is_spare-2.ensures,
      c.is_spare-3.ensures,
      c.is_spare-4.ensures,
      to_z-of_z w32 x.first first_fits,
      to_z-of_z w32 x.second second_fits,
      to_z-of_z w32 x.third third_fits,
      to_z-of_z w32 x.fourth fourth_fits,
    )
