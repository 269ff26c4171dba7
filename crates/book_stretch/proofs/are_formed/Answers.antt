use Rattle.book_stretch.proofs.Passed.{none_told, apart_first, fits_on, fits_not, none_here, none_left}
use borrow.Author.Rules.{rules}
use mathlib.Core.Path.{ap}
use mathlib.Core.Bool.{not}
use Rattle.book_stretch.proofs.are_formed.Goals as goal

pub returns-then-are_none : goal.returns-then-are_none
returns-then-are_none c = search (none_told, rules)

pub loop-i-init : goal.loop-i-init
loop-i-init c = search (apart_first, rules)

pub returns-then-is_none : goal.returns-then-is_none
returns-then-is_none c = none_here _ _ _ _ (search rules) c.loop-i.invariant c.loop-i-test.true _ c.is_none.ensures c.if-is_none.true _ c.all_none.ensures

pub returns-then-not-fits : goal.returns-then-not-fits
returns-then-not-fits c = search (fits_not, rules)

pub loop-i-preserved : goal.loop-i-preserved
loop-i-preserved c =
    fits_on _ _ _ _ (search rules) c.loop-i.invariant c.loop-i-test.true _ c.is_none.ensures c.if-is_none.false
    _ c.fits.ensures (ap not c.if-not-fits.false)

pub returns : goal.returns
returns c = search (none_left, rules)
