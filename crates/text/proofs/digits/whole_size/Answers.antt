use Prim.Native.Nat.{◌+◌, ◌-◌}
use Rattle.text.proofs.Numerals.{whole_low, whole_found, whole_last}
use mathlib.Core.Path.{◌≡◌, ◌∙◌}
use native.Mathlib.Omega.{arith}
use Rattle.text.proofs.digits.whole_size.Goals as goal
use Rattle.text.proofs.digits.whole_size.Goals.{else-loop-j-test, then-loop-j-test+else-n-pow10+else-j-k}

pub loop-j-init : goal.loop-j-init
loop-j-init c = whole_last _ _ (omega arith)

pub returns-then-n-pow10 : goal.returns-then-n-pow10
returns-then-n-pow10 c =
    let l = c.loop-j in
    let a = c.args in
    (omega arith, omega arith, whole_low a.k l.j a.n (omega arith) (omega arith) (rw c.pow10.ensures at c.if-n-pow10.true) ∙ l.invariant)

pub loop-j-preserved : goal.loop-j-preserved
loop-j-preserved c =
    let l = c.loop-j in
    let e : l.j + 1 - 1 ≡ l.j = omega arith in
    rw e (whole_found l.j _ (omega arith) (rw c.pow10.ensures at c.if-n-pow10.false))

-- Below each power of ten, or above them all.
pub returns : goal.returns
returns c =
    let a = c.args in (
      omega arith,
      omega arith,
      elim c.loop-j-test.branch [
        | else-loop-j-test w ↦ let none : a.k ≡ 0 = grind (arith, w) in rw none (whole_last 0 a.n (omega arith))
        | then-loop-j-test+else-n-pow10+else-j-k w ↦
            let last : c.loop-j.j ≡ a.k = omega (arith, w) in
            whole_found a.k a.n (omega (arith, w)) (rw (w.pow10.ensures, last) at w.if-n-pow10.false)
      ],
    )
