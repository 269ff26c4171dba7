use Rattle.record_rules.specs.Rules.{rises}
use borrow.Author.Rules.{rules}
use mir.Syntax.{w32}
use mir.ValLaws.{to_z-of_z}
use Rattle.record_rules.proofs.rises.Goals as goal

-- The rule, test by test as its definition says.
pub returns : goal.returns
unfolding rises
returns c =
    let t = c.args.t in
    rw (to_z-of_z w32 t.low (search rules), to_z-of_z w32 t.high (search rules), to_z-of_z w32 t.gradient (search rules))
