use Rattle.text.proofs.Runs.{refused_write, done_write}
use native.Mathlib.Omega.{arith}
use Rattle.value_put.proofs.write_value.Goals as goal

pub returns-then-out-at : goal.returns-then-out-at
returns-then-out-at c = refused_write _ _ _ _ _ c.put_value-size.ensures (omega arith)

pub returns-then-out-at-2 : goal.returns-then-out-at-2
returns-then-out-at-2 c = refused_write _ _ _ _ _ c.put_value-size.ensures (omega arith)

pub returns : goal.returns
returns c =
    done_write _ _ _ _ _ c.put_value-size.ensures _ _ (omega arith) c.put_value.ensures
