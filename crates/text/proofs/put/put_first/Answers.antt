use Prim.Native.Nat.{◌+◌, ◌-◌, ◌*◌}
use Rattle.text.proofs.Runs.{front_next, front_last}
use mathlib.Core.Path.{◌≡◌, ◌∙◌}
use native.Mathlib.Omega.{arith}
use Rattle.text.proofs.put.put_first.Goals as goal

pub loop-k-preserved : goal.loop-k-preserved
loop-k-preserved c =
    let l = c.loop-k in
    let a = c.args in
    let next : 8 * (l.k + 1) ≡ 8 * l.k + 8 = omega arith in
    rw next (c.put_eight.ensures ∙ front_next l.out a.out.now a.at a.t.now (8 * l.k) 8 (omega arith) l.invariant)

pub returns : goal.returns
returns c =
    let l = c.loop-k in
    let a = c.args in
    let n : a.n - 8 + 8 ≡ a.n = omega arith in
    let at : a.at + a.n - 8 ≡ a.at + (a.n - 8) = omega arith in
    let put = front_last l.out a.out.now a.at a.t.now (8 * l.k) (a.n - 8) 8 (omega arith) (omega arith) (omega arith) l.invariant in
    rw at at c.put_eight-2.ensures ∙ put ∙ rw n
