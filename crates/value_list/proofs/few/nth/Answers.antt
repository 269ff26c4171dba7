use Prim.Native.Nat.{ℕ}
use Rattle.value_list.proofs.Lines.{places_of}
use Rattle.text.proofs.Tables.{no_arm}
use borrow.Author.Rules.{rules}
use lib.IntN.{pos}
use lib.ListN.{get_or}
use mathlib.Core.Path.{sym, ap, ◌∙◌}
use mir.Syntax.{w32}
use mir.ValLaws.{to_z-of_z}
use Rattle.value_list.proofs.few.nth.Goals as goal

-- Each arm is a place of the four; past them there is zero.
pub returns-in-0 : goal.returns-in-0
returns-in-0 c = to_z-of_z w32 _ (search rules) ∙ ap (λ (i : ℕ). get_or (places_of c.args.x) i (pos 0)) (sym c.in-0.is)

pub returns-in-1 : goal.returns-in-1
returns-in-1 c = to_z-of_z w32 _ (search rules) ∙ ap (λ (i : ℕ). get_or (places_of c.args.x) i (pos 0)) (sym c.in-1.is)

pub returns-in-2 : goal.returns-in-2
returns-in-2 c = to_z-of_z w32 _ (search rules) ∙ ap (λ (i : ℕ). get_or (places_of c.args.x) i (pos 0)) (sym c.in-2.is)

pub returns-in-3 : goal.returns-in-3
returns-in-3 c = to_z-of_z w32 _ (search rules) ∙ ap (λ (i : ℕ). get_or (places_of c.args.x) i (pos 0)) (sym c.in-3.is)

pub returns-in_default : goal.returns-in_default
returns-in_default c = no_arm (pos 0) (places_of c.args.x) c.args.i c.in_default.in_default-own.rest
