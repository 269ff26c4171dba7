use Rattle.report_brief.proofs.Writes.{no_room, written}
use borrow.Author.Rules.{rules}
use lib.ListN.{length}
use mathlib.Core.Path.{◌≡◌}
use Rattle.report_brief.proofs.write_lines.Goals as goal

pub returns-then-out-size : goal.returns-then-out-size
returns-then-out-size c =
    let sized : length c.args.b.unit ≡ 16 = search rules in
    no_room c.args.b sized c.args.out.now _ c.put_lines-size.ensures.0 c.if-out-size.true

pub returns : goal.returns
returns c =
    let sized : length c.args.b.unit ≡ 16 = search rules in
    written c.args.b sized c.args.out.now _ c.put_lines-size.ensures.0 _ _ _ _ c.if-out-size.false c.put_lines-size.ensures.1
    c.front.ensures c.put_text.ensures
