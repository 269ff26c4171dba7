use Prim.Native.Nat.{◌-◌}
use Rattle.text.proofs.Loads.{word_room, word_step, word_none, word_end, word_all}
use mathlib.Core.Path.{◌∙◌}
use native.Mathlib.Omega.{arith}
use Rattle.text.proofs.words.upto.Goals as goal

pub returns-then-s-i : goal.returns-then-s-i
returns-then-s-i c = word_none _ _ c.if-s-i.true

pub loop-k-init : goal.loop-k-init
loop-k-init c = (omega arith, word_end c.args.s.now _ (omega arith))

pub overflow_mul-w : goal.overflow_mul-w
overflow_mul-w c =
    omega (arith, c.loop-k.invariant.1, word_room c.args.s.now c.loop-k.k (λ i. c.type_inv.s i) (omega arith))

pub overflow_add-w : goal.overflow_add-w
overflow_add-w c =
    omega (arith, c.loop-k.invariant.1, word_room c.args.s.now c.loop-k.k (λ i. c.type_inv.s i) (omega arith), c.from.ensures, c.type_inv.s (c.loop-k.k - 1))

pub loop-k-preserved : goal.loop-k-preserved
loop-k-preserved c =
    (omega arith, omega (arith, c.loop-k.invariant.1, c.from.ensures, word_step c.args.s.now (c.loop-k.k - 1) c.loop-k.k (omega arith) (omega arith)))

pub returns : goal.returns
returns c =
    c.loop-k.invariant.1 ∙ word_all c.args.s.now c.args.i c.loop-k.k (omega arith) (omega arith)
