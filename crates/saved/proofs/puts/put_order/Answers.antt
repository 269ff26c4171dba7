use Rattle.saved.proofs.Shelving.{order_put}
use Rattle.saved.proofs.Valued.{values_small}
use native.Mathlib.Omega.{arith}
use Rattle.saved.proofs.puts.put_order.Goals as goal

pub put_item-requires : goal.put_item-requires
put_item-requires c =
    (c.requires.0, omega arith, values_small c.args.o c.requires.1 _ c.values_of.ensures)

pub returns : goal.returns
returns c =
    order_put c.args.o _ c.values_of.ensures _ _ _ _ c.put_item.ensures
