use Rattle.value_bounds.specs.Bounds.{is_amount}
use borrow.Author.Rules.{rules}
use mir.Syntax.{w32}
use mir.ValLaws.{to_z-of_z}
use Rattle.value_bounds.proofs.is_amount.Goals as goal

-- Both comparisons, of the number as it is stored.
pub returns : goal.returns
unfolding is_amount
returns c = rw (to_z-of_z w32 c.args.v (search rules))
