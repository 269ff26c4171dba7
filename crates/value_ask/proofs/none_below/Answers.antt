use borrow.Author.Rules.{rules}
use lib.IntN.{ℤ, pos}
use lib.Signed.{le_z}
use mathlib.Core.Bool.{◌&&◌}
use mathlib.Core.Path.{◌≡◌, ap, ap₂}
use mir.Syntax.{w32}
use mir.Val.{SFits, to_z, of_z}
use mir.ValLaws.{to_z-of_z}
use Rattle.value_ask.proofs.none_below.Goals as goal

-- Test by test as the definition says, and written out, so that a wrong version is refused by what differs.
-- a number's test, as the code makes it
tested : (v : ℤ) → SFits w32 v → le_z (pos 0) (to_z w32 (of_z w32 v)) ≡ le_z (pos 0) v
tested v h = ap (le_z (pos 0)) (to_z-of_z w32 v h)

pub returns : goal.returns
returns c =
    let x = c.args.x in
    ap₂ ◌&&◌ (tested x.first (search rules)) (tested x.second (search rules))
