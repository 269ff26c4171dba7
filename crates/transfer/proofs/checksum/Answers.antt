use Prim.Native.Nat.{◌≤◌}
use borrow.Author.Rules.{rules}
use Rattle.transfer.proofs.Sums.{sum_begins, sum_goes, sum_ends}
use mathlib.Core.Path.{refl}
use Rattle.transfer.proofs.checksum.Goals as goal

pub loop-b-init : goal.loop-b-init
loop-b-init c = sum_begins _

pub loop-b-preserved : goal.loop-b-preserved
loop-b-preserved c = sum_goes _ _ _ _ _ c.loop-b-test.true refl refl c.loop-b.invariant

pub returns : goal.returns
returns c =
    let fits : c.loop-b.sum ≤ 255 = search rules in
    sum_ends _ _ _ c.loop-b-test.false fits c.loop-b.invariant
