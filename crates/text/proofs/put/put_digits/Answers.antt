use Prim.Native.Nat.{◌+◌, ◌-◌, ◌*◌}
use Rattle.text.proofs.Runs.{two_digits, one_digit, digit_end}
use mathlib.Core.Path.{◌≡◌, refl, sym, ◌∙◌}
use native.Mathlib.Omega.{arith}
use Rattle.text.proofs.put.put_digits.Goals as goal
use Rattle.text.proofs.put.put_digits.Goals.{then-k-eq1, else-k-eq1}

pub loop-i-preserved : goal.loop-i-preserved
loop-i-preserved c =
    let l = c.loop-i in
    let a = c.args in
    let next : a.k - 2 * (l.i + 1) ≡ a.k - 2 * l.i - 2 = omega arith in
    rw next (two_digits l.out a.at (a.k - 2 * l.i) l.m (omega arith) ∙ l.invariant)

pub returns : goal.returns
returns c =
    let l = c.loop-i in
    let a = c.args in
    let left = a.k - 2 * l.i in (
      refl,
      elim c.if-k-eq1.branch [
        | then-k-eq1 w ↦ w.out-is ∙ one_digit l.out a.at left l.m (omega (arith, w)) ∙ l.invariant
        | else-k-eq1 w ↦ w.out-is ∙ sym (digit_end l.out a.at left l.m (omega (arith, w))) ∙ l.invariant
      ],
    )
