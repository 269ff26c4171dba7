use Prim.Native.Nat.{◌+◌, ◌*◌}
use Rattle.text.proofs.Cuts.{alike_stop, alike_next, alike_last}
use mathlib.Core.Path.{◌≡◌, sym, ◌∙◌}
use native.Mathlib.Omega.{arith}
use Rattle.text.proofs.scan.alike.Goals as goal

pub returns-then-not-eight_alike : goal.returns-then-not-eight_alike
returns-then-not-eight_alike c =
    let z = c.args in
    let other = sym c.eight_alike.ensures ∙ c.if-not-eight_alike.true in
    sym (c.loop-k.invariant ∙ alike_stop z.a.now z.b.now z.n (8 * c.loop-k.k) 8 (omega arith) other)

pub loop-k-preserved : goal.loop-k-preserved
loop-k-preserved c =
    let z = c.args in
    let alike = sym c.eight_alike.ensures ∙ c.if-not-eight_alike.false in
    let next : 8 * (c.loop-k.k + 1) ≡ 8 * c.loop-k.k + 8 = omega arith in
    rw next (c.loop-k.invariant ∙ alike_next z.a.now z.b.now z.n (8 * c.loop-k.k) 8 (omega arith) alike)

pub returns : goal.returns
returns c =
    let z = c.args in
    c.eight_alike-2.ensures ∙ alike_last z.a.now z.b.now z.n (8 * c.loop-k.k) 8 (omega arith) (omega arith) c.loop-k.invariant
