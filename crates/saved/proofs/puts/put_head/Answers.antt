use Rattle.saved.proofs.Shelving.{form_small, head_small, unit_room, below_unit, head_put}
use borrow.Author.Rules.{rules}
use lib.ListN.{length}
use mathlib.Core.Path.{◌≡◌}
use native.Mathlib.Omega.{arith}
use Rattle.saved.proofs.puts.put_head.Goals as goal

pub put_item-a-requires : goal.put_item-a-requires
put_item-a-requires c = (omega arith, omega arith, form_small)

pub put_line-b-requires : goal.put_line-b-requires
put_line-b-requires c =
    let sixteen : length c.args.unit ≡ 16 = search rules in
    unit_room _ _ _ c.put_item-a.ensures c.args.unit _ c.args.size c.front.ensures sixteen

pub put_item-requires : goal.put_item-requires
put_item-requires c =
    let sixteen : length c.args.unit ≡ 16 = search rules in (
      below_unit _ _ _ c.put_item-a.ensures c.args.unit _ c.args.size c.front.ensures sixteen _ _ c.put_line-b.ensures,
      omega arith,
      head_small c.args.floor c.args.count (omega (arith, c.ranges.floor.fits)) c.requires,
    )

pub returns : goal.returns
returns c =
    let sixteen : length c.args.unit ≡ 16 = search rules in
    head_put _ _ _ c.put_item-a.ensures c.args.unit _ c.args.size c.front.ensures sixteen _ _ c.put_line-b.ensures
    c.args.floor c.args.count _ _ c.put_item.ensures
