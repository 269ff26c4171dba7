use Rattle.value_number.proofs.Parts.{close_other, close_here}
use borrow.Author.Rules.{rules}
use mathlib.Core.Path.{◌≡◌}
use mir.Syntax.{w32}
use mir.Val.{to_z, of_z}
use mir.ValLaws.{to_z-of_z}
use native.Mathlib.Omega.{arith}
use Rattle.value_number.proofs.close.Goals as goal

pub returns-then-s-e : goal.returns-then-s-e
returns-then-s-e c =
    close_other _ c.requires.1 _ _ _ c.requires.0 c.past_blanks-e.ensures _ c.if-e-s.true c.if-s-e.true

pub returns-else-s-e : goal.returns-else-s-e
returns-else-s-e c =
    let stored : to_z w32 (of_z w32 c.args.v) ≡ c.args.v = to_z-of_z w32 c.args.v (search rules) in
    rw stored (close_here _ c.requires.1 _ _ _ c.requires.0 c.past_blanks-e.ensures _ (λ h. c.if-s-e.false))

pub returns-else-e-s : goal.returns-else-e-s
returns-else-e-s c =
    let stored : to_z w32 (of_z w32 c.args.v) ≡ c.args.v = to_z-of_z w32 c.args.v (search rules) in
    rw stored (close_here _ c.requires.1 _ _ _ c.requires.0 c.past_blanks-e.ensures _ (λ h. absurd (omega (arith, c.if-e-s.false))))
