use Rattle.value_number.proofs.Signs.{negative_fits}
use lib.IntN.{pos, neg_ℤ, ◌-ℤ◌, +ℤ_idl}
use mathlib.Core.Path.{◌≡◌}
use mir.Syntax.{w32}
use mir.Val.{to_z, of_z}
use mir.ValLaws.{to_z-of_z}
use native.Mathlib.Omega.{arith}
use Rattle.value_number.proofs.negative.Goals as goal

pub overflow_sub-result : goal.overflow_sub-result
overflow_sub-result c =
    let turned : pos 0 -ℤ to_z w32 (of_z w32 c.positive.result) ≡ neg_ℤ (pos c.args.n) = rw (to_z-of_z w32 c.positive.result (record { sfits = c.positive.type_inv }), c.positive.ensures) (+ℤ_idl _) in
    rw turned (negative_fits c.args.n (omega arith))

pub returns : goal.returns
returns c =
    let turned : pos 0 -ℤ to_z w32 (of_z w32 c.positive.result) ≡ neg_ℤ (pos c.args.n) = rw (to_z-of_z w32 c.positive.result (record { sfits = c.positive.type_inv }), c.positive.ensures) (+ℤ_idl _) in
    rw turned (to_z-of_z w32 _ (negative_fits c.args.n (omega arith)))
