use Rattle.book_stretch.proofs.Turns.{after_none, after_one, after_all}
use borrow.Author.Rules.{rules}
use mathlib.Core.Path.{◌≡◌}
use native.Mathlib.Omega.{arith}
use Rattle.book_stretch.proofs.join.Goals as goal

pub loop-c-init : goal.loop-c-init
loop-c-init c = search (after_none, rules)

pub turn-all-requires : goal.turn-all-requires
turn-all-requires c = omega (arith, c.loop-c.invariant.came.fits)

pub loop-c-preserved : goal.loop-c-preserved
loop-c-preserved c = after_one _ _ _ _ _ c.loop-c-test.true c.loop-c.invariant c.turn-all.ensures

pub finish-whole-requires : goal.finish-whole-requires
finish-whole-requires c = omega (arith, c.loop-c.invariant.came.fits)

pub returns : goal.returns
returns c =
    let come : c.loop-c.c-index ≡ 4 = omega arith in
    after_all _ _ _ _ (rw come at c.loop-c.invariant) c.finish-whole.ensures
