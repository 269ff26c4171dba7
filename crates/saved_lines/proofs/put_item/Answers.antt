use Rattle.saved_lines.proofs.Putting.{none_put, put_place, put_one, all_put, same_room}
use borrow.Author.Rules.{rules}
use lib.ListN.{length}
use mathlib.Core.Path.{◌≡◌}
use native.Mathlib.Omega.{arith}
use Rattle.saved_lines.proofs.put_item.Goals as goal

pub loop-n-init : goal.loop-n-init
loop-n-init c = none_put _ _ _ _ _

pub next_of-requires : goal.next_of-requires
next_of-requires c =
    (omega (arith, c.loop-n-test.true, c.requires.1), c.requires.2)

pub put_next-p-requires : goal.put_next-p-requires
put_next-p-requires c =
    let eighteen : length c.args.v ≡ 18 = search rules in
    omega (arith, c.requires.0, put_place _ _ _ _ _ _ _ _ c.loop-n.invariant c.loop-n-test.true c.requires.1 eighteen)

pub loop-n-preserved : goal.loop-n-preserved
loop-n-preserved c =
    let eighteen : length c.args.v ≡ 18 = search rules in
    put_one _ _ _ _ _ _ _ _ c.loop-n.invariant c.loop-n-test.true c.requires.1 eighteen _ _ _ c.next_of.ensures c.put_next-p.ensures

pub shape_of-out : goal.shape_of-out
shape_of-out c = let k = same_room c.loop-n.invariant.so_far in search rules

pub returns : goal.returns
returns c = all_put _ _ _ _ _ _ _ _ c.loop-n.invariant c.loop-n-test.false
