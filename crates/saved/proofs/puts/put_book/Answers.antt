use Rattle.book.proofs.Holding.{Holding, holds}
use Rattle.book.proofs.Sizes.{sized}
use Rattle.saved.proofs.Shelving.{order_come, none_shelved, next_place, next_shelved, all_shelved}
use Rattle.saved_lines.proofs.Putting.{same_room}
use borrow.Author.Rules.{rules}
use mathlib.Core.Path.{refl}
use native.Mathlib.Omega.{arith}
use Rattle.saved.proofs.puts.put_book.Goals as goal

pub put_head-p-requires : goal.put_head-p-requires
put_head-p-requires c =
    let holding : Holding c.args.b c.args.count = holds c.args.b _ refl _ (sized c.args.b (search rules) (search rules)) c.requires in
    holding.few

pub loop-i-init : goal.loop-i-init
loop-i-init c = none_shelved _ _ _ _

pub offset_bounds-b-i : goal.offset_bounds-b-i
offset_bounds-b-i c =
    let holding : Holding c.args.b c.args.count = holds c.args.b _ refl _ (sized c.args.b (search rules) (search rules)) c.requires in
    record { fits = omega (arith, c.loop-i-test.true, holding.few) }

pub bounds-b-i : goal.bounds-b-i
bounds-b-i c =
    let holding : Holding c.args.b c.args.count = holds c.args.b _ refl _ (sized c.args.b (search rules) (search rules)) c.requires in
    omega (arith, c.loop-i-test.true, holding.few)

pub put_order-p-requires : goal.put_order-p-requires
put_order-p-requires c =
    let holding : Holding c.args.b c.args.count = holds c.args.b _ refl _ (sized c.args.b (search rules) (search rules)) c.requires in
    let h = holding in
    (next_place _ _ h _ _ _ _ _ c.loop-i.invariant _ c.put_head-p.ensures c.loop-i-test.true, order_come _ _ h _ c.loop-i-test.true)

pub loop-i-preserved : goal.loop-i-preserved
loop-i-preserved c =
    let holding : Holding c.args.b c.args.count = holds c.args.b _ refl _ (sized c.args.b (search rules) (search rules)) c.requires in
    next_shelved _ _ holding _ _ _ _ _ c.loop-i.invariant c.loop-i-test.true _ _ c.put_order-p.ensures

pub shape_of-out : goal.shape_of-out
shape_of-out c = let k = same_room c.loop-i.invariant.so_far in search rules

pub returns : goal.returns
returns c =
    let holding : Holding c.args.b c.args.count = holds c.args.b _ refl _ (sized c.args.b (search rules) (search rules)) c.requires in
    all_shelved _ _ holding _ _ _ _ _ c.loop-i.invariant _ c.put_head-p.ensures c.loop-i-test.false
