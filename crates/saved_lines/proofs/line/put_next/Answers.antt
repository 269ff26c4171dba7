use Rattle.saved_lines.proofs.OnePut.{value_fits, end_fits, next_put, over_none}
use Rattle.saved_lines.specs.Values.{next_by}
use mathlib.Core.Path.{ap}
use Rattle.saved_lines.proofs.line.put_next.Goals as goal

pub put_value-b-requires : goal.put_value-b-requires
put_value-b-requires c =
    value_fits (next_by c.args.x) _ _ _ _ (ap next_by c.in-Some.is) c.args.v c.args.out.now c.args.at _ c.put_key-a.new.out
    c.put_key-a.ensures c.requires

pub put_byte-requires : goal.put_byte-requires
put_byte-requires c =
    end_fits (next_by c.args.x) _ _ _ _ (ap next_by c.in-Some.is) c.args.v c.args.out.now c.args.at _ c.put_key-a.new.out c.put_key-a.ensures
    _ c.put_value-b.new.out c.put_value-b.ensures c.requires

pub returns-in-Some : goal.returns-in-Some
returns-in-Some c =
    next_put (next_by c.args.x) _ _ _ _ (ap next_by c.in-Some.is) c.args.v c.args.out.now c.args.at _ c.put_key-a.new.out c.put_key-a.ensures
    _ c.put_value-b.new.out c.put_value-b.ensures _ _ c.put_byte.ensures

pub returns-in-None : goal.returns-in-None
returns-in-None c = over_none (next_by c.args.x) c.args.v c.args.out.now c.args.at (ap next_by c.in-None.is)
