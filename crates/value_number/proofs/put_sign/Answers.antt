use Rattle.value_number.proofs.Signs.{sign_minus, sign_none}
use Rattle.value_number.specs.Number.{sign_text}
use Rattle.text.proofs.Runs.{puts, puts_none, same_puts}
use mathlib.Core.Path.{sym}
use mir.Syntax.{w32}
use mir.ValLaws.{to_z-of_z}
use Rattle.value_number.proofs.put_sign.Goals as goal

pub returns-then-v-lt0 : goal.returns-then-v-lt0
returns-then-v-lt0 c =
    let e = sign_minus c.args.v (rw (to_z-of_z w32 c.args.v c.ranges.v) at c.if-v-lt0.true) in
    same_puts (sign_text c.args.v) (sym e) (puts c.put_byte.ensures)

pub returns : goal.returns
returns c =
    let e = sign_none c.args.v (rw (to_z-of_z w32 c.args.v c.ranges.v) at c.if-v-lt0.false) in
    same_puts (sign_text c.args.v) (sym e) (puts_none _ _)
