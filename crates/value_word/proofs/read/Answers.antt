use Prim.Native.Nat.{suc, ◌-◌}
use Rattle.value_word.proofs.Numbers.{spelt_is, too_long}
use Rattle.value_word.proofs.Search.{word_here, word_on, word_end}
use mathlib.Core.Path.{refl, sym, ◌∙◌}
use native.Mathlib.Omega.{arith}
use Rattle.value_word.proofs.read.Goals as goal

pub returns-then-n-gt20 : goal.returns-then-n-gt20
returns-then-n-gt20 c =
    let a = c.args in
    sym (too_long (suc a.last - a.first) a.first a.s.now c.if-n-gt20.true)

pub loop-w-init : goal.loop-w-init
loop-w-init c = refl

pub returns-then-m-n : goal.returns-then-m-n
returns-then-m-n c =
    let is = spelt_is c.spell-m.result c.loop-w.w c.args.s.now c.upto-a.result c.upto-b.result c.upto-c.result
    c.spell-m.ensures c.shared_slice_known-1.given (omega arith) c.upto-a.ensures c.upto-b.ensures c.upto-c.ensures in
    sym (c.loop-w.invariant ∙ word_here _ _ _ c.loop-w-test.true (sym is ∙ c.if-m-n.true))

pub loop-w-preserved : goal.loop-w-preserved
loop-w-preserved c =
    let is = spelt_is c.spell-m.result c.loop-w.w c.args.s.now c.upto-a.result c.upto-b.result c.upto-c.result
    c.spell-m.ensures c.shared_slice_known-1.given (omega arith) c.upto-a.ensures c.upto-b.ensures c.upto-c.ensures in
    c.loop-w.invariant ∙ word_on _ _ _ c.loop-w-test.true (sym is ∙ c.if-m-n.false)

-- Past the last word, or behind it.
pub returns-else-n-gt20 : goal.returns-else-n-gt20
returns-else-n-gt20 c = sym (c.loop-w.invariant ∙ word_end _ _ _ c.loop-w-test.false)

pub returns-else-m-n : goal.returns-else-m-n
returns-else-m-n c =
    let is = spelt_is c.spell-m.result c.loop-w.w c.args.s.now c.upto-a.result c.upto-b.result c.upto-c.result
    c.spell-m.ensures c.shared_slice_known-1.given (omega arith) c.upto-a.ensures c.upto-b.ensures c.upto-c.ensures in
    sym (c.loop-w.invariant ∙ word_on _ _ _ c.loop-w-test.true (sym is ∙ c.if-m-n.false) ∙ word_end _ _ _ (omega arith))
