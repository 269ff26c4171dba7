use Rattle.value_word.proofs.Arms.{found}
use Rattle.value_word.proofs.Table.{command_is, mode_is, setting_is, none_below, none_above}
use native.Mathlib.Omega.{arith}
use Rattle.value_word.proofs.spell.Goals as goal
use Rattle.value_word.proofs.spell.Goals.{in_default-via-then-w-lt1, in_default-via-else-w-lt1+else-w-lt13+else-w-lt23+else-w-lt32}

pub returns-in-1-to-12 : goal.returns-in-1-to-12
returns-in-1-to-12 c = found (command_is c.args.w (omega arith) (omega arith)) c.command_word.ensures

pub returns-in-13-to-22 : goal.returns-in-13-to-22
returns-in-13-to-22 c = found (mode_is c.args.w (omega arith) (omega arith)) c.mode_word.ensures

pub returns-in-23-to-31 : goal.returns-in-23-to-31
returns-in-23-to-31 c = found (setting_is c.args.w (omega arith) (omega arith)) c.setting_word.ensures

pub returns-in_default : goal.returns-in_default
returns-in_default c =
    let w = c.args.w in
    elim c.in_default.branch [
      | in_default-via-then-w-lt1 h ↦ found (none_below w (omega arith)) c.no_word.ensures
      | in_default-via-else-w-lt1+else-w-lt13+else-w-lt23+else-w-lt32 h ↦ found (none_above w (omega arith)) c.no_word.ensures
    ]
