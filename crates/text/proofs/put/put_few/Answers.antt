use Rattle.text.proofs.Runs.{front_one}
use native.Mathlib.Omega.{arith}
use Rattle.text.proofs.put.put_few.Goals as goal

pub loop-i-preserved : goal.loop-i-preserved
loop-i-preserved c =
    let l = c.loop-i in
    let a = c.args in
    front_one l.out a.out.now a.at a.t.now l.i (omega arith) l.invariant
