use Rattle.text_keyline.proofs.Putting.{line_put}
use Rattle.text_keyline.proofs.put_line.Goals as goal

pub returns : goal.returns
returns c =
    line_put c.args.key.now c.args.v.now c.args.out.now _ _ c.put_text-a.new.out _ c.put_text-b.new.out _ _
    c.put_text-a.ensures c.put_text-b.ensures c.put_byte.ensures
